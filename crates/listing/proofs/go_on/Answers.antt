-- `go_on` meets its contract: it gives 23, 24, the end, or the record of the raised numbers.
use mathlib.Core.Path.{ap}
use mathlib.Core.Bool.{not}
use mathlib.Core.Path.{sym, ◌∙◌}
use Rattle.listing.specs.Numbers.{number_list}
use Rattle.listing.proofs.Continued.{count-refused, count_kept, counts, denied, run-written, refused, ends, goes_on, next-written}
use Rattle.listing.proofs.go_on.Goals as goal

pub returns-then-not-is_count : goal.returns-then-not-is_count
returns-then-not-is_count c =
    count-refused c.args.features c.is_count.ensures _ c.args.out.now (ap not c.if-not-is_count.true)

pub returns-then-not-are_within : goal.returns-then-not-are_within
returns-then-not-are_within c =
    let f = counts c.args.features c.is_count.ensures (ap not c.if-not-is_count.false) in
    count_kept c.args.features c.is_count.ensures (ap not c.if-not-is_count.false) c.args.out.now
    (refused c.args.n c.args.features c.args.out.now c.requires.0 c.requires.1 f c.args.bytes.now c.requires.2
    (number_list c.of-numbers.result) c.of-numbers.ensures
    (λ r q. denied (ap not c.if-not-are_within.true) (c.are_within.ensures.1 r)))

pub is_record-requires : goal.is_record-requires
is_record-requires c =
    let f = counts c.args.features c.is_count.ensures (ap not c.if-not-is_count.false) in
    (run-written c.args.n c.args.features c.args.out.now c.requires.0 c.requires.1 f c.of-numbers.result
    (c.are_within.ensures.0 c.if-not-are_within.false)).0

pub returns-then-not-is_record : goal.returns-then-not-is_record
returns-then-not-is_record c =
    let f = counts c.args.features c.is_count.ensures (ap not c.if-not-is_count.false) in
    count_kept c.args.features c.is_count.ensures (ap not c.if-not-is_count.false) c.args.out.now
    (refused c.args.n c.args.features c.args.out.now c.requires.0 c.requires.1 f c.args.bytes.now c.requires.2
    (number_list c.of-numbers.result) c.of-numbers.ensures
    (λ r q. denied (ap not c.if-not-is_record.true) (c.is_record.ensures.1 q)))

pub returns-in_default : goal.returns-in_default
returns-in_default c =
    let f = counts c.args.features c.is_count.ensures (ap not c.if-not-is_count.false) in
    let run = c.are_within.ensures.0 c.if-not-are_within.false in
    let same = c.is_record.ensures.0 c.if-not-is_record.false in
    count_kept c.args.features c.is_count.ensures (ap not c.if-not-is_count.false) c.args.out.now
    (ends c.args.n c.args.features c.args.out.now c.requires.0 c.requires.1 f c.args.bytes.now c.requires.2
    (number_list c.of-numbers.result) c.of-numbers.ensures run same
    (sym c.in_default.ensures))

pub write-requires : goal.write-requires
write-requires c =
    let f = counts c.args.features c.is_count.ensures (ap not c.if-not-is_count.false) in
    let run = c.are_within.ensures.0 c.if-not-are_within.false in
    let same = c.is_record.ensures.0 c.if-not-is_record.false in
    next-written c.args.n c.args.features c.args.out.now c.requires.0 c.requires.1 f c.args.bytes.now c.requires.2
    (number_list c.of-numbers.result) c.of-numbers.ensures run same c.in-Some.next
    (sym c.in-Some.ensures)

pub returns : goal.returns
returns c =
    let f = counts c.args.features c.is_count.ensures (ap not c.if-not-is_count.false) in
    let run = c.are_within.ensures.0 c.if-not-are_within.false in
    let same = c.is_record.ensures.0 c.if-not-is_record.false in
    count_kept c.args.features c.is_count.ensures (ap not c.if-not-is_count.false) c.args.out.now
    (c.write.ensures ∙ goes_on c.args.n c.args.features c.args.out.now c.requires.0 c.requires.1 f
    c.args.bytes.now c.requires.2
    (number_list c.of-numbers.result) c.of-numbers.ensures run same
    (number_list c.in-Some.next)
    (sym c.in-Some.ensures))
