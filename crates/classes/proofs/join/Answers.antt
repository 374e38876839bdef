-- `join` meets its contract, by that of `merge`.
use mathlib.Core.Path.{refl}
use Rattle.classes.proofs.Merging.{merged-short}
use native.Mathlib.Omega.{arith}
use Rattle.classes.proofs.join.Goals as goal

pub merge-next-requires : goal.merge-next-requires
merge-next-requires c =
    let p = c.requires in
    rw (c.row.ensures.start, c.row.ensures.end, c.row-2.ensures.start, c.row-2.ensures.end)
    record { used_in_bounds = p.used_in_bounds; span = p.span; span_2 = p.span_2; used_bound = p.used_bound }

pub overflow_cast-spans-2 : goal.overflow_cast-spans-2
overflow_cast-spans-2 c =
    let merged = rw (c.row.ensures.start, c.row.ensures.end, c.row-2.ensures.start, c.row-2.ensures.end) at c.merge-next.ensures in
    omega (arith, merged-short merged c.requires.span c.requires.span_2, c.requires.used_bound.0)

pub returns : goal.returns
returns c =
    record {
      merges_rows = rw (c.row.ensures.start, c.row.ensures.end, c.row-2.ensures.start, c.row-2.ensures.end) at c.merge-next.ensures;
      class_after = refl;
      start_after = refl;
      end_after = refl;
    }
