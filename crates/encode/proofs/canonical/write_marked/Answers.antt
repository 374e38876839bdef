-- `write_marked` meets its contract, because `measure` gives the length of the record and the number of its links.
use mathlib.Core.Path.{refl, sym}
use native.Mathlib.Omega.{arith}
use Rattle.std.proofs.lemmas.Result.{err_from_is_err_and}
use Rattle.encode.proofs.Outcomes.{measured-unmarked, notes-by}
use Rattle.encode.proofs.WrittenForm.{marked-short, marked-narrow, marked-whole}
use Rattle.encode.proofs.canonical.write_marked.Goals as goal

pub returns-in_err-sizes : goal.returns-in_err-sizes
returns-in_err-sizes c =
    let p = err_from_is_err_and c.from_residual.result c.from_residual.ensures.1 in
    rw (p.1, p.2) (measured-unmarked c.in_err-sizes.ensures _ c.args.out.now c.args.beside.now)

pub returns-then-out-sizes : goal.returns-then-out-sizes
returns-then-out-sizes c =
    sym (marked-short (c.in_ok-sizes.ensures.fits _ refl) c.args.out.now c.args.marks.now c.requires.graph_len_bound.0 c.requires.graph_len_bound.1 c.args.beside.now c.if-out-sizes.true)

pub returns-then-beside-sizes : goal.returns-then-beside-sizes
returns-then-beside-sizes c =
    sym (marked-narrow (c.in_ok-sizes.ensures.fits _ refl) c.args.out.now c.args.marks.now c.requires.graph_len_bound.0 c.requires.graph_len_bound.1 c.args.beside.now c.if-out-sizes.false c.if-beside-sizes.true)

pub encode-requires : goal.encode-requires
encode-requires c =
    let fits = c.in_ok-sizes.ensures.fits _ refl in
    (record { visited = fits.nodes; visited_in_bounds = omega (arith, fits.length-is, c.if-out-sizes.false) })

pub put_marks-requires : goal.put_marks-requires
put_marks-requires c =
    let fits = c.in_ok-sizes.ensures.fits _ refl in
    record {
      visited = fits.nodes;
      graph_len_bound = c.requires.graph_len_bound;
      visited_in_bounds = omega (arith, fits.links-are, c.if-beside-sizes.false);
    }

pub returns : goal.returns
returns c =
    notes-by c.encode.ensures c.put_marks.ensures
    (marked-whole (c.in_ok-sizes.ensures.fits _ refl) c.args.out.now c.args.marks.now c.requires.graph_len_bound.0 c.requires.graph_len_bound.1 c.args.beside.now c.if-out-sizes.false c.if-beside-sizes.false)
