use mathlib.Core.Path.{◌≡◌, ap, ◌∙◌}
use mathlib.Core.List.{List}
use Prim.Native.Nat.{ℕ}
use native.Mathlib.Omega.{arith}
use lib.ListN.{length, get_or, take}
use lib.Seq.{sets, length-take-le, get_or-take}
use Rattle.tile.specs.Packings.{planar}
use Rattle.tile.specs.Inner.{Planes}
use Rattle.tile.proofs.Filling.{words-of-side}
use Rattle.tile.proofs.Packings.{planes-of}
use Rattle.tile.proofs.Packed.{planar-words-are}
use Rattle.tile.proofs.planes.put_planes.Goals as goal
use Rattle.tile.proofs.planes.put_planes.Goals.{After-words_of-ws}

planes : (c : After-words_of-ws) → Planes c.args.group c.args.depth
planes c = planes-of c.args.group c.args.depth c.requires.sound

long : (c : After-words_of-ws) (part : List ℕ) → length part ≡ 8 → length (take c.args.depth part) ≡ c.args.depth
long c part l = length-take-le c.args.depth part (omega (arith, (planes c).deep))

pub returns : goal.returns
returns c =
    let a = c.args in
    let side = (planar a.group a.depth 8 8).bytes in
    let part = c.loop-b.part in
    let st = c.loop-b.invariant in
    c.put_words.ensures
    ∙ ap (λ (l : List ℕ). sets a.out.now a.at l)
    (words-of-side side a.tile.now (take a.depth part) a.depth (long (goal.at.returns c).After-words_of-ws part st.long)
    (λ i li. planar-words-are a.group a.depth c.requires.sound a.tile.now c.words_of-ws.result i (get_or (take a.depth part) i 0) c.words_of-ws.ensures li
    (get_or-take a.depth part i 0 li ∙ st.are i (omega arith)))
    (omega arith))
