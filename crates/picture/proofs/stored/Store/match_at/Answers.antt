-- Tiles with two keys do not match; else the stored tile is read, or taken out of the picture, and compared.
use mathlib.Core.Path.{sym, ap, ◌∙◌, subst}
use mathlib.Core.List.{List}
use Prim.Native.Nat.{ℕ, ◌<◌, ◌*◌}
use native.Mathlib.Omega.{arith}
use lib.ListN.{take, drop}
use Rattle.tile.specs.Tile.{unpacked}
use Rattle.flip.specs.Matching.{match_flip}
use Rattle.flip.proofs.Equivalence.{not-both}
use Rattle.index.proofs.Keys.{keys-differ}
use Rattle.picture.specs.Converting.{places}
use Rattle.picture.specs.Inner.{tile_at}
use Rattle.picture.proofs.Taking.{has-tile}
use Rattle.picture.proofs.Tiles.{is-written, is-taken}
use Rattle.picture.proofs.stored.Store.match_at.Goals as goal
use Rattle.picture.proofs.stored.Store.match_at.Goals.{After-from-i}

inside : (c : After-from-i) → c.from-i.result < places c.args.source.now.settings
inside c = subst (λ (n : ℕ). n < places c.args.source.now.settings) (sym c.from-i.ensures) (c.requires.stored.taken c.args.k (omega (arith, c.if-k-self.false)) (omega arith))

pub returns-then-not-has_key : goal.returns-then-not-has_key
returns-then-not-has_key c =
    let r = c.requires in
    sym (keys-differ c.args.source.now.settings.flip _ _ (λ e. not-both (sym c.if-not-has_key.true ∙ c.has_key.ensures.1 (r.keyed ∙ e ∙ sym r.its))))

pub returns-then-k-self : goal.returns-then-k-self
returns-then-k-self c =
    let s = c.args.source.now in
    let t = c.args.self.now in
    let z = s.settings in
    let there = is-written z s.pixels.now s.tiles.now t.held t.from c.args.k c.if-k-self.true in
    c.match_one.ensures
    ∙ ap (λ (o : List ℕ). match_flip z.flip 8 8 o c.args.tile.now)
    (c.read_tile.ensures ∙ ap (λ m. unpacked m z.depth 8 8 (take (z.depth * 8) (drop (c.args.k * (z.depth * 8)) s.tiles.now))) c.at.ensures ∙ sym there)

pub take_tile-other-requires : goal.take_tile-other-requires
take_tile-other-requires c = has-tile c.requires.stored.picture c.from-i.result (inside (goal.at.take_tile-other-requires c).After-from-i)

pub returns : goal.returns
returns c =
    let s = c.args.source.now in
    let t = c.args.self.now in
    let there = is-taken s.settings s.pixels.now s.tiles.now t.held t.from c.args.k (omega (arith, c.if-k-self.false)) in
    c.match_one-2.ensures
    ∙ ap (λ (o : List ℕ). match_flip s.settings.flip 8 8 o c.args.tile.now) (c.take_tile-other.ensures ∙ ap (tile_at s.settings s.pixels.now) c.from-i.ensures ∙ sym there)
