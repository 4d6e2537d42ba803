-- What a read gave stands after what was read before it.
use Rattle.std.proofs.Common.{◌≡◌, ℕ, ◌+◌, ◌-◌, ◌≤◌, List, ◌++◌, length, take, sym, ap, ◌∙◌, subst, arith, length-append}
use Rattle.std.proofs.Math.Seq.{take-append-add}
use Rattle.std.proofs.lemmas.List.{take-append-le, length-take-le}
use Rattle.std.proofs.lemmas.Slice.{take-put_mid_below}
use Rattle.std.specs.Io.KnownBytes.{Consumes}
use Rattle.std.proofs.KnownBytes.{Consumes-trans, Consumes-kept}
use Rattle.fill.proofs.read_full.Goals as goal
use Rattle.fill.proofs.read_full.Goals.{in-Ok, in-Err+else-ne}

-- the front of a buffer whose part from a on was written
front : (xs ys rest : List ℕ) (a n m : ℕ) → a ≤ length xs → n ≤ length ys → m ≡ a + n → take m (take a xs ++ (ys ++ rest)) ≡ take a xs ++ take n ys
front xs ys rest a n m inside some more =
    ap (λ (k : ℕ). take k (take a xs ++ (ys ++ rest))) (more ∙ ap (λ (k : ℕ). k + n) (sym (length-take-le a xs inside)))
    ∙ take-append-add (take a xs) (ys ++ rest) n
    ∙ ap (λ (l : List ℕ). take a xs ++ l) (take-append-le n ys rest some)

-- and it is no longer than the whole
long : (xs ys rest : List ℕ) (a n m : ℕ) → a ≤ length xs → n ≤ length ys → m ≡ a + n → m ≤ length (take a xs ++ (ys ++ rest))
long xs ys rest a n m inside some more = omega (arith, length-append (take a xs) (ys ++ rest), length-append ys rest, length-take-le a xs inside)

pub loop-preserved : goal.loop-preserved
loop-preserved g c =
    let left = g.R.Read.remaining in
    let xs = c.loop.buf in
    let ys = c.read.new.buf in
    let n = c.loop.n in
    elim c.match-read.branch [
      | in-Ok w ↦
          let read = w.in-Ok.ensures in (
            long xs ys _ n w.in-Ok.k _ c.loop.invariant.0 read.bound.0 w.n-is,
            subst (λ l. Consumes (left c.args.reader.now) (left c.read.new.self) l) (sym (front xs ys _ n w.in-Ok.k _ c.loop.invariant.0 read.bound.0 w.n-is))
                (Consumes-trans _ _ _ (take n xs) (take w.in-Ok.k ys) c.loop.invariant.1 read.bytes.0),
          )
      | in-Err+else-ne w ↦
          let read = w.in-Err.ensures in (
            long xs ys _ n 0 _ c.loop.invariant.0 (omega arith) (omega (arith, w.n-is)),
            subst (λ l. Consumes (left c.args.reader.now) (left c.read.new.self) l)
                (ap (λ (k : ℕ). take k xs) (sym w.n-is) ∙ sym (take-put_mid_below n (length xs - n) xs ys _ (omega (arith, w.n-is)) c.loop.invariant.0))
                (Consumes-kept _ _ _ (take n xs) c.loop.invariant.1 read.bytes),
          )
    ]
