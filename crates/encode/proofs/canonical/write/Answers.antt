-- `write` meets its contract, because `measure` gives the length of the record.
use mathlib.Core.Path.{refl, sym}
use native.Mathlib.Omega.{arith}
use Rattle.std.proofs.lemmas.Result.{err_from_is_err_and}
use Rattle.encode.proofs.Outcomes.{yields-by, measured-unwritten}
use Rattle.encode.proofs.WrittenForm.{too_short, written-whole}
use Rattle.encode.proofs.canonical.write.Goals as goal

pub returns-in_err-sizes : goal.returns-in_err-sizes
returns-in_err-sizes c =
    let p = err_from_is_err_and c.from_residual.result c.from_residual.ensures.1 in
    rw (p.1, p.2) (measured-unwritten c.in_err-sizes.ensures c.args.out.now)

pub returns-then-out-sizes : goal.returns-then-out-sizes
returns-then-out-sizes c = sym (too_short (c.in_ok-sizes.ensures.fits _ refl) c.args.out.now c.if-out-sizes.true)

pub encode-requires : goal.encode-requires
encode-requires c =
    let fits = c.in_ok-sizes.ensures.fits _ refl in
    (record { visited = fits.nodes; visited_in_bounds = omega (arith, fits.length-is, c.if-out-sizes.false) })

pub returns : goal.returns
returns c =
    yields-by c.encode.ensures (written-whole (c.in_ok-sizes.ensures.fits _ refl) c.args.out.now c.if-out-sizes.false)
