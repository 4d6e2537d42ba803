-- The least of what the mode can name and of what the buffer holds, under the limit.
use mathlib.Core.Path.{sym, ap, ◌∙◌}
use mathlib.Core.List.{[]}
use Prim.Native.Nat.{ℕ, min, ◌/◌, ◌*◌, ◌^◌}
use Rattle.mode.specs.Table.{row}
use Rattle.tileset.specs.Sets.{room_under}
use Rattle.tileset.proofs.Says.{room-taken}
use Rattle.picture.specs.Converting.{picture_room}
use Rattle.picture.proofs.picture_room.Goals as goal

pub returns : goal.returns
unfolding picture_room
returns c =
    let z = c.args.settings in
    let whole = c.args.len / (z.depth * 8) in
    let most = c.most_tiles.ensures ∙ ap (λ m. 2 ^ (row m).tile) c.at.ensures in
    c.room.ensures
    ∙ ap (λ (k : ℕ). room_under z.limit k []) (c.min-most.ensures ∙ ap (λ (k : ℕ). min k whole) most)
    ∙ sym (room-taken z.limit (2 ^ (row z.mode).tile) whole [])
