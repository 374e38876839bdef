-- `numbering::number` meets its contract: once no node has a number, the visit of the root finds what its contract says.
use native.Mathlib.Omega.{arith}
use Rattle.layout.proofs.Places.{sized}
use Rattle.visits.proofs.Visiting.{numbered, unmarked}
use Rattle.visits.proofs.numbering.number.Goals as goal

pub size-requires : goal.size-requires
size-requires c = sized c.requires.sound

pub visit-requires : goal.visit-requires
visit-requires c =
    let cleared = c.clear in
    let white = rw c.size.ensures at cleared.ensures.by_index in
    record {
      sound = c.requires.sound;
      marks = unmarked c.args.graph.now cleared.new.numbers c.args.visited.now cleared.ensures.numbers_len_2 c.requires.visited_len white;
      inside = c.requires.sound.shaped.nonempty;
      fresh = white 0 c.requires.sound.shaped.nonempty;
      room = omega arith;
    }

pub returns : goal.returns
returns c =
    let found = c.visit.ensures in
    record {
      numbers = numbered c.args.graph.now c.visit.new.numbers c.visit.new.visited c.args.visited.now found;
      numbers_len_2 = found.numbers-long;
      visited_len_2 = found.visited-long;
    }
