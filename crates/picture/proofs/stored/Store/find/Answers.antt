use mathlib.Core.Path.{◌≡◌, sym, ap, ◌∙◌}
use mathlib.Core.List.{List, []}
use Prim.Native.Nat.{ℕ, ◌-◌, ◌<◌}
use native.Mathlib.Omega.{arith}
use lib.ListN.{get_or}
use Rattle.flip.specs.Matching.{match_flip}
use Rattle.index.proofs.Chains.{search-start, search-down, search-turn, search-end}
use Rattle.picture.specs.Inner.{tiles_of}
use Rattle.picture.proofs.Tiles.{stored-long, stored_at, looks-at}
use Rattle.picture.proofs.stored.Store.find.Goals as goal
use Rattle.picture.proofs.stored.Store.find.Goals.{After-match_at-m, In-loop-l}

there : (c : In-loop-l) → (c.loop-l.l - 1) < c.args.self.now.count
there c =
    let s = c.args.source.now in
    let t = c.args.self.now in
    omega (arith, c.loop-l.invariant.1.low, stored-long s.settings s.pixels.now s.tiles.now t.held t.from t.count, c.loop-l-test.true)

matched : (c : After-match_at-m) → let s = c.args.source.now in
    c.match_at-m.result ≡ match_flip s.settings.flip 8 8 (get_or (tiles_of s c.args.self.now) (c.loop-l.l - 1) []) c.args.tile.now
matched c =
    let s = c.args.source.now in
    let t = c.args.self.now in
    let there : (c.loop-l.l - 1) < t.count =
    omega (arith, c.loop-l.invariant.1.low, stored-long s.settings s.pixels.now s.tiles.now t.held t.from t.count, c.loop-l-test.true) in
    c.match_at-m.ensures
    ∙ ap (λ (o : List ℕ). match_flip s.settings.flip 8 8 o c.args.tile.now)
    (sym (stored_at s.settings s.pixels.now s.tiles.now t.held t.from t.count (c.loop-l.l - 1) there))

pub loop-l-init : goal.loop-l-init
loop-l-init c =
    let b = c.bucket-b in
    (b.ensures.0, search-start _ _ _ _ _ _ _ c.requires.search b.result b.ensures.0 b.ensures.1 c.head-l.ensures)

pub match_at-m-requires : goal.match_at-m-requires
match_at-m-requires c = looks-at c.requires (c.loop-l.l - 1) (there c)

pub loop-l-smaller : goal.loop-l-smaller
loop-l-smaller c =
    let lp = c.loop-l in
    omega (
      arith,
      search-down _ _ _ _ _ _ _ c.requires.search _ {k = lp.l - 1} lp.invariant.0 c.loop-l-test.true (omega arith) lp.invariant.1
          (matched (goal.at.loop-l-smaller c).After-match_at-m) c.over-found.ensures c.link-l.ensures,
    )

pub loop-l-preserved : goal.loop-l-preserved
loop-l-preserved c =
    let lp = c.loop-l in (
      lp.invariant.0,
      search-turn _ _ _ _ _ _ _ c.requires.search _ {k = lp.l - 1} lp.invariant.0 c.loop-l-test.true (omega arith) lp.invariant.1
          (matched (goal.at.loop-l-preserved c).After-match_at-m) c.over-found.ensures c.link-l.ensures,
    )

pub returns : goal.returns
returns c = search-end _ _ _ _ _ _ _ c.requires.search (omega arith) c.loop-l.invariant.1
