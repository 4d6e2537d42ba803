-- Ws beside wsc: "the bit at place 5 of the second byte is not a tile bit; the bank belongs to the colour model".
-- Assumes nothing.
use mathlib.Core.Path.{◌≡◌, refl, sym, ap, ◌∙◌}
use mathlib.Core.Bool.{Bool, true, false, cond}
use Rattle.std.specs.Prelude.{Some}
use Prim.Native.Nat.{ℕ, ◌+◌, ◌*◌, ◌/◌, ◌%◌, ◌<◌}
use native.Mathlib.Omega.{arith}
use lib.Dec.{ltb}
use borrow.Author.Tests.{ltb-true, lt-ltb}
use Rattle.words.specs.Bytes.{bytes_of}
use Rattle.mode.specs.Table.{row}
use Rattle.mapentry.specs.Entry.{layout, entry_word, entry_bytes, entry_in, misfit_of, IsEntry}
use Rattle.mapentry.specs.Inner.{places_in}
use Rattle.mapentry.specs.declared.Mapentry.{Mapentry}
use Rattle.mapentry.specs.declared.Misfit.TheVariants.{Tile}
use Rattle.mapentry.proofs.Laws.{fitting}
use Rattle.mapentry.proofs.Links.{read_right}

abbrev pub ws : ℕ
ws = 13

abbrev pub wsc : ℕ
wsc = 14

-- An entry with the low nine bits of its tile index.
abbrev pub nine_bits : Mapentry → Mapentry
nine_bits e =
    record { tile = e.tile % 512; palette = e.palette; flip_h = e.flip_h; flip_v = e.flip_v; priority = e.priority }

-- what ws cannot hold: a tile index of 512 and above, else what wsc cannot hold
fits-case : (e : Mapentry) (b : Bool) → ltb e.tile 512 ≡ b → misfit_of ws e ≡ cond b (misfit_of wsc e) (Some Tile)
unfolding row
fits-case e true small =
    let under : ltb e.tile 1024 ≡ true = lt-ltb e.tile 1024 (omega (arith, ltb-true e.tile 512 small)) in
    rw (small, under)
fits-case e false large = rw large

pub ws-fits : (e : Mapentry) → misfit_of ws e ≡ cond (ltb e.tile 512) (misfit_of wsc e) (Some Tile)
ws-fits e = fits-case e (ltb e.tile 512) refl

-- an entry of ws has the bytes that it has in wsc
word_same : (e : Mapentry) → e.tile < 512 → entry_word ws e ≡ entry_word wsc e
unfolding layout
word_same e small = omega arith

pub ws-bytes : (e : Mapentry) → IsEntry ws e → entry_bytes ws e ≡ entry_bytes wsc e
unfolding row
ws-bytes e i = ap (λ (w : ℕ). bytes_of 2 false w) (word_same e (fitting ws e i.fits).tile)

-- what is read in ws is what is read in wsc, less the bank
pub ws-reads : (w : ℕ) → w < 65536 → entry_in ws w ≡ nine_bits (entry_in wsc w)
unfolding layout places_in
ws-reads w small =
    let tiles : w % 512 + w / 65536 % 2 * 512 ≡ (w % 512 + w / 8192 % 2 * 512) % 512 = omega arith in
    sym (read_right ws (omega arith) w small)
    ∙ rw tiles (ap nine_bits (read_right wsc (omega arith) w small))
