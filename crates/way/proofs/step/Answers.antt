-- `step` meets its contract: the program joins the common part, and then the new state is packed.
use native.Mathlib.Omega.{arith}
use Rattle.replies.specs.Replies.{told}
use Rattle.gathering.proofs.Told.{told-ok, told-err, handed-on}
use Rattle.way.proofs.Ways.{entered, steps-large, size-short, part-short, steps_on}
use Rattle.way.proofs.step.Goals as goal

pub returns-in_err-size : goal.returns-in_err-size
returns-in_err-size c =
    let a = c.args in
    let joined = entered a.n a.table.now a.slots.now a.part.now a.version c.length_in-length.result c.requires.2 c.requires.3
    c.length_in-length.ensures.0 c.join.ensures in
    rw (handed-on c.from_residual.ensures.1 c.in_err-size.was)
    (steps-large joined a.state.now (told-err c.in_err-size.was))

pub overflow_add-size : goal.overflow_add-size
overflow_add-size c =
    let a = c.args in
    let joined = entered a.n a.table.now a.slots.now a.part.now a.version c.length_in-length.result c.requires.2 c.requires.3
    c.length_in-length.ensures.0 c.join.ensures in
    omega (arith, size-short joined a.state.now _ (told-ok c.in_ok-size.was))

pub slice_bounds-pack-end : goal.slice_bounds-pack-end
slice_bounds-pack-end c =
    let a = c.args in
    let joined = entered a.n a.table.now a.slots.now a.part.now a.version c.length_in-length.result c.requires.2 c.requires.3
    c.length_in-length.ensures.0 c.join.ensures in
    omega (arith, size-short joined a.state.now _ (told-ok c.in_ok-size.was), joined.joins.parted.long)

pub pack-requires : goal.pack-requires
pack-requires c =
    let a = c.args in
    let joined = entered a.n a.table.now a.slots.now a.part.now a.version c.length_in-length.result c.requires.2 c.requires.3
    c.length_in-length.ensures.0 c.join.ensures in (
      c.requires.0.ok,
      c.requires.1,
      omega (arith, c.requires.2),
      part-short joined a.state.now _ (told-ok c.in_ok-size.was),
      c.requires.5,
      c.requires.6,
    )

pub returns : goal.returns
returns c =
    let a = c.args in
    let joined = entered a.n a.table.now a.slots.now a.part.now a.version c.length_in-length.result c.requires.2 c.requires.3
    c.length_in-length.ensures.0 c.join.ensures in
    steps_on joined a.state.now _ (told-ok c.in_ok-size.was) (told c.pack.result) _
    c.pack.ensures.long c.pack.ensures.inside c.pack.ensures.packs
