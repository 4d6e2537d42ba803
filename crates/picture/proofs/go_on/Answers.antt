-- The tiles gathered, the discards counted, and both buffers written.
use mathlib.Core.Path.{◌≡◌, refl, sym, ap, ◌∙◌, subst}
use Prim.Native.Nat.{ℕ, ◌+◌, ◌-◌, ◌≤◌}
use native.Mathlib.Omega.{arith}
use lib.ListN.{length, length-replicate}
use lib.Dec.{ltb}
use Rattle.std.specs.Prelude.{Ok}
use Rattle.words.specs.Answers.{◌when◌}
use Rattle.words.proofs.Refusing.{passed_on}
use Rattle.picture.specs.Converting.{places, picture_room}
use Rattle.picture.specs.Continuing.{unpacked_tiles, discarded_after, stored_after, GoesOn}
use Rattle.words.specs.declared.refusal.Refusal.TheVariants.{Discarded}
use Rattle.picture.specs.Inner.{CanGoOn, goes_on_says}
use Rattle.picture.specs.InnerResults.{picture_by}
use Rattle.picture.proofs.Promised.{shallow, few-room, none-taken, gather-start, goes-full, goes-13, goes-0, stored-count, sum-after, puts-picture, put-done, refused-by}
use Rattle.picture.proofs.go_on.Goals as goal
use Rattle.picture.proofs.go_on.Goals.{After-picture_room-room, In_ok-gather, Start}

room-is : (c : After-picture_room-room) → c.picture_room-room.result ≡ picture_room c.args.settings (length c.args.tiles.now)
room-is c = c.picture_room-room.ensures

most : (c : After-picture_room-room) → c.picture_room-room.result ≤ 4096
most c = omega (arith, room-is c, few-room c.requires)

pub picture_room-room-requires : goal.picture_room-room-requires
picture_room-room-requires c = (c.requires.picture.mode, shallow c.requires, c.requires.picture.deep)

pub index_written-requires : goal.index_written-requires
index_written-requires c = record { stored = none-taken c.requires; none = refl; empty = c.new.ensures }

pub gather-requires : goal.gather-requires
gather-requires c =
    let at = (goal.at.gather-requires c).After-picture_room-room in
    gather-start (none-taken c.requires) c.index_written.ensures (omega (arith, c.requires.room, room-is at)) (most at) (length-replicate {A = ℕ} 4096 0)

pub returns-in_err-gather : goal.returns-in_err-gather
returns-in_err-gather c =
    let a = c.args in
    let z = a.settings in
    let at = (goal.at.returns-in_err-gather c).After-picture_room-room in
    let given =
    c.in_err-gather.ensures.says
    ∙ ap (λ (n : ℕ). 12 when ltb c.picture_room-room.result (length (stored_after z a.pixels.now (unpacked_tiles z a.tiles.now n)))) c.index_written.ensures.held
    ∙ ap (λ (r : ℕ). 12 when ltb r (length (stored_after z a.pixels.now (unpacked_tiles z a.tiles.now a.held)))) (room-is at) in
    rw (passed_on c.from_residual.result _ c.from_residual.ensures.1)
    (refused-by _ (goes-full z a.pixels.now (unpacked_tiles z a.tiles.now a.held) a.discarded (length a.tiles.now) _ given))

still : (c : In_ok-gather) → c.gather.new.self.held ≡ c.args.held
still c = c.in_ok-gather.ensures.values.0 ∙ c.index_written.ensures.held

all : (c : In_ok-gather) → let a = c.args in
    c.gather.new.self.count + discarded_after a.settings a.pixels.now (unpacked_tiles a.settings a.tiles.now a.held) ≡ a.held + places a.settings
all c =
    let a = c.args in
    subst (λ (h : ℕ). c.gather.new.self.count + discarded_after a.settings a.pixels.now (unpacked_tiles a.settings a.tiles.now h) ≡ h + places a.settings) (still c)
    (sum-after c.in_ok-gather.ensures.values.1)

roomy : (c : In_ok-gather) → let a = c.args in
    length (stored_after a.settings a.pixels.now (unpacked_tiles a.settings a.tiles.now a.held)) ≤ picture_room a.settings (length a.tiles.now)
roomy c =
    let a = c.args in
    let g = c.in_ok-gather.ensures.values.1 in
    let is : c.picture_room-room.result ≡ picture_room a.settings (length a.tiles.now) = c.picture_room-room.ensures in
    subst (λ (h : ℕ). length (stored_after a.settings a.pixels.now (unpacked_tiles a.settings a.tiles.now h)) ≤ picture_room a.settings (length a.tiles.now)) (still c)
    (omega (arith, stored-count g, g.within, is))

pub overflow_sub-total : goal.overflow_sub-total
overflow_sub-total c = omega (arith, all (goal.at.overflow_sub-total c).In_ok-gather)

pub returns-then-total-gt4294967295 : goal.returns-then-total-gt4294967295
returns-then-total-gt4294967295 c =
    let a = c.args in
    let at = (goal.at.returns-then-total-gt4294967295 c).In_ok-gather in
    refused-by Discarded
    (goes-13 a.settings a.pixels.now (unpacked_tiles a.settings a.tiles.now a.held) a.discarded (length a.tiles.now) (roomy at)
    (omega (arith, c.if-total-gt4294967295.true, all at)))

pub put_picture-requires : goal.put_picture-requires
put_picture-requires c =
    let a = c.args in
    let at = (goal.at.put_picture-requires c).In_ok-gather in
    puts-picture c.in_ok-gather.ensures.values.1
    (subst (λ (h : ℕ). CanGoOn a.settings h a.first (length a.pixels.now) (length a.tiles.now) (length a.map.now)) (sym (still at)) c.requires)
    (room-is (goal.at.put_picture-requires c).After-picture_room-room) (omega (arith, c.if-total-gt4294967295.false))

pub returns : goal.returns
returns c =
    let a = c.args in
    let at = (goal.at.returns c).In_ok-gather in
    let due = goes_on_says a.settings a.pixels.now (unpacked_tiles a.settings a.tiles.now a.held) a.discarded (length a.tiles.now) in
    subst
    (λ (h : ℕ). GoesOn due a.settings a.pixels.now (unpacked_tiles a.settings a.tiles.now h) a.discarded a.first a.tiles.now a.map.now (picture_by (Ok c.put_picture.result)) c.put_picture.new.tiles c.put_picture.new.map)
    (still at)
    (put-done c.in_ok-gather.ensures.values.1 (ap (λ (h : ℕ). a.discarded + (h + places a.settings - c.gather.new.self.count)) (sym (still at))) c.put_picture.ensures
    (goes-0 a.settings a.pixels.now (unpacked_tiles a.settings a.tiles.now a.held) a.discarded (length a.tiles.now) (roomy at)
    (omega (arith, c.if-total-gt4294967295.false, all at))))
