-- A tile that is found is discarded with discarding on, and any other is stored.
use mathlib.Core.Path.{◌≡◌, sym, ap, ◌∙◌}
use Rattle.tileset.specs.Finding.{look_up}
use Rattle.tileset.specs.declared.Found.TheVariants.{At, Nothing}
use Rattle.index.specs.InnerKeys.{key}
use Rattle.picture.specs.Inner.{tile_at, tiles_of}
use Rattle.picture.proofs.Tiles.{finds-of}
use Rattle.picture.proofs.Storing.{place-few, new-refused, new-stored, keep-found, again-refused, again-stored}
use Rattle.picture.proofs.stored.Store.keep_tile.Goals as goal
use Rattle.picture.proofs.stored.Store.keep_tile.Goals.{After-find-found, In-At, In_default}

found-is : (c : After-find-found) → let s = c.args.source.now in
    c.find-found.result ≡ look_up s.settings.flip 8 8 (tiles_of s c.args.self.now) (tile_at s.settings s.pixels.now c.args.i)
found-is c = let s = c.args.source.now in c.find-found.ensures ∙ ap (look_up s.settings.flip 8 8 (tiles_of s c.args.self.now)) c.take_tile-tile.ensures

keyed : (c : After-find-found) → let s = c.args.source.now in c.key-q.result ≡ key s.settings.flip (tile_at s.settings s.pixels.now c.args.i)
keyed c = c.key-q.ensures ∙ ap (key c.args.source.now.settings.flip) c.take_tile-tile.ensures

pub find-found-requires : goal.find-found-requires
find-found-requires c = finds-of c.requires.stored c.requires.index c.key-q.ensures

none : (c : In_default) → let s = c.args.source.now in look_up s.settings.flip 8 8 (tiles_of s c.args.self.now) (tile_at s.settings s.pixels.now c.args.i) ≡ Nothing
none c =
    let s = c.args.source.now in
    ap (look_up s.settings.flip 8 8 (tiles_of s c.args.self.now)) (sym c.take_tile-tile.ensures) ∙ sym c.find-found.ensures ∙ c.in_default.is

pub returns-in_err-store_tile : goal.returns-in_err-store_tile
returns-in_err-store_tile c =
    new-refused c.requires (none (goal.at.returns-in_err-store_tile c).In_default) c.code-last.ensures _ c.from_residual.result _ c.from_residual.ensures.1 c.in_err-store_tile.ensures.says

pub returns-in_default : goal.returns-in_default
returns-in_default c =
    let f = (goal.at.returns-in_default c).After-find-found in
    new-stored c.requires (none (goal.at.returns-in_default c).In_default) c.code-last.ensures c.in_ok-store_tile.ensures.says c.in_ok-store_tile.ensures.values (keyed f) (found-is f)

there : (c : In-At) → let s = c.args.source.now in
    look_up s.settings.flip 8 8 (tiles_of s c.args.self.now) (tile_at s.settings s.pixels.now c.args.i) ≡ At c.in-At.place c.in-At.f
there c =
    let s = c.args.source.now in
    ap (look_up s.settings.flip 8 8 (tiles_of s c.args.self.now)) (sym c.take_tile-tile.ensures) ∙ sym c.find-found.ensures ∙ c.in-At.is

pub code-first-requires : goal.code-first-requires
code-first-requires c = place-few c.requires (there c)

pub returns-then-z : goal.returns-then-z
returns-then-z c = keep-found c.requires (there (goal.at.returns-then-z c).In-At) c.if-z.true c.code-first.ensures

pub returns-in_err-store_tile-2 : goal.returns-in_err-store_tile-2
returns-in_err-store_tile-2 c =
    let r = c.from_residual-in_err-store_tile-2 in
    again-refused c.requires (there (goal.at.returns-in_err-store_tile-2 c).In-At) _ r.result _ c.if-z.false c.code-first.ensures r.ensures.1 c.in_err-store_tile-2.ensures.says

pub returns : goal.returns
returns c =
    let f = (goal.at.returns c).After-find-found in
    again-stored c.requires (there (goal.at.returns c).In-At) c.if-z.false c.code-first.ensures c.in_ok-store_tile-2.ensures.says c.in_ok-store_tile-2.ensures.values (keyed f)
    (sym (there (goal.at.returns c).In-At))
