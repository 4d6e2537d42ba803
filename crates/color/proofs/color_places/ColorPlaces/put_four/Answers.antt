-- Four grays, one after the other.
use mathlib.Core.Path.{refl, ◌∙◌}
use mathlib.Core.List.{List}
use Prim.Native.Nat.{ℕ}
use Rattle.color.specs.Inner.{gray_at}
use Rattle.color.proofs.Unpacking.{put-colors}
use Rattle.color.proofs.color_places.ColorPlaces.put_four.Goals as goal

pub returns : goal.returns
returns c =
    let a = c.args in
    let gray : ℕ → List ℕ = gray_at a.self a.word in
    c.put_gray-4.ensures
    ∙ rw (c.put_gray-3.ensures, c.put_gray-2.ensures, c.put_gray.ensures)
    (put-colors a.out.now (gray a.self.first) (gray a.self.second) (gray a.self.third) (gray a.self.fourth) refl refl refl refl c.requires)
