-- Refused, or the set's bytes at the front of the buffer.
use mathlib.Core.Path.{◌≡◌, sym, ap, ap₂, ◌∙◌, subst}
use mathlib.Core.List.{List}
use Prim.Native.Nat.{ℕ}
use lib.Dec.{T}
use lib.ListN.{length}
use Rattle.words.specs.Answers.{written, overwrite}
use Rattle.words.proofs.Answers.{done}
use Rattle.words.proofs.Refusing.{wrote_refused}
use Rattle.tile.specs.Tile.{is_native}
use Rattle.tileset.specs.Writing.{set_bytes, write_size, write_says}
use Rattle.tileset.specs.declared.Set.{Set}
use Rattle.tileset.proofs.Says.{held-set}
use Rattle.tileset.proofs.WritingLaws.{in_cells, write_refused, write-held, write-space, written-size}
use Rattle.tileset.proofs.writing.write.Goals as goal
use Rattle.tileset.proofs.writing.write.Goals.{In_ok-held, In_ok-size}

-- what is said, and written, of the set with its store is so of the two
says_are : (c : In_ok-held) → let h = c.in_ok-held.held in
    write_says h.set h.store.now (length c.args.out.now) ≡ write_says c.args.set c.args.store.now (length c.args.out.now)
says_are c = let is = c.in_ok-held.ensures.held in ap₂ (λ (z : Set) (l : List ℕ). write_says z l (length c.args.out.now)) is.0 is.1

native_is : (c : In_ok-held) → let h = c.in_ok-held.held in let z = c.args.set in is_native h.set.mode h.set.width h.set.height ≡ is_native z.mode z.width z.height
native_is c = ap (λ (z : Set). is_native z.mode z.width z.height) c.in_ok-held.ensures.held.0

put_is : (c : In_ok-held) → let h = c.in_ok-held.held in overwrite c.args.out.now (set_bytes h.set h.store.now) ≡ overwrite c.args.out.now (set_bytes c.args.set c.args.store.now)
put_is c = let is = c.in_ok-held.ensures.held in ap (overwrite c.args.out.now) (ap₂ set_bytes is.0 is.1)

accepted : (c : In_ok-size) → write_says c.args.set c.args.store.now (length c.args.out.now) ≡ 0
accepted c =
    let is = c.in_ok-held.ensures.held in
    sym (c.in_ok-size.ensures.says ∙ ap₂ (λ (z : Set) (l : List ℕ). write_says z l (length c.args.out.now)) is.0 is.1)

size_is : (c : In_ok-size) → written 0 c.in_ok-size.size ≡ written 0 (length (set_bytes c.args.set c.args.store.now))
size_is c =
    let a = c.args in
    let held = write-held a.set a.store.now (length a.out.now) (accepted c) in
    ap (λ (n : ℕ). written 0 n) (c.in_ok-size.ensures.size ∙ ap write_size c.in_ok-held.ensures.held.0 ∙ sym (written-size a.set a.store.now held))

pub returns-in_err-held : goal.returns-in_err-held
returns-in_err-held c =
    let a = c.args in
    let e = c.in_err-held.field-0.0 in
    wrote_refused _ _ _ _ e (write_refused a.set a.store.now _ e c.in_err-held.ensures.says) c.from_residual.ensures.1

pub returns-in_err-size : goal.returns-in_err-size
returns-in_err-size c =
    wrote_refused _ _ _ _ c.in_err-size.field-0.0 (c.in_err-size.ensures.says ∙ says_are (goal.at.returns-in_err-size c).In_ok-held) c.from_residual-in_err-size.ensures.1

pub put_tiles-requires : goal.put_tiles-requires
put_tiles-requires c =
    let h = c.in_ok-held.held in
    (write-space h.set h.store.now _ (sym c.in_ok-size.ensures.says), subst T (c.if-is_native.ensures ∙ sym (native_is (goal.at.put_tiles-requires c).In_ok-held)) tt)

pub put_cells-requires : goal.put_cells-requires
put_cells-requires c =
    let h = c.in_ok-held.held in (
      write-space h.set h.store.now _ (sym c.in_ok-size.ensures.says),
      in_cells (held-set h.set _ h.held) (native_is (goal.at.put_cells-requires c).In_ok-held ∙ sym c.if-is_native.ensures),
    )

pub returns-then-is_native : goal.returns-then-is_native
returns-then-is_native c =
    let at = goal.at.returns-then-is_native c in
    done (accepted at.In_ok-size) (size_is at.In_ok-size) (c.put_tiles.ensures ∙ put_is at.In_ok-held)

pub returns-else-is_native : goal.returns-else-is_native
returns-else-is_native c =
    let at = goal.at.returns-else-is_native c in
    done (accepted at.In_ok-size) (size_is at.In_ok-size) (c.put_cells.ensures ∙ put_is at.In_ok-held)
