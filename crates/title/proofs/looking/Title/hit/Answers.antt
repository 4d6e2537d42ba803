-- A place with its part, which is as long as a tile.
use mathlib.Core.Path.{◌≡◌, sym, ap, ◌∙◌, subst}
use Prim.Native.Nat.{ℕ}
use lib.ListN.{length}
use Rattle.tileset.specs.Finding.{place_of}
use Rattle.tileset.specs.declared.Found.TheVariants.{At}
use Rattle.title.specs.Titles.{is_common, held_at, held_of, part_length}
use Rattle.title.specs.Inner.{HasPart}
use Rattle.title.proofs.LookingLaws.{part-long}
use Rattle.title.proofs.looking.Title.hit.Goals as goal

pub returns : goal.returns
returns c =
    let a = c.args in
    let z = a.self.set in
    let found = At c.in-At.place c.in-At.flip in
    let e : a.found ≡ found = cc in
    let long : length c.part.result.now ≡ part_length z found =
    ap length c.part.ensures ∙ part-long z a.self.count a.common.now a.store.now (subst (HasPart z a.self.count a.common.now a.store.now) e c.requires) in
    ap (λ (n : ℕ). held_at (place_of found) (is_common a.self.count found) n (length c.part.result.now)) c.part_start.ensures
    ∙ ap (held_at (place_of found) (is_common a.self.count found) _) long
    ∙ sym (ap (held_of z a.self.count) e)
