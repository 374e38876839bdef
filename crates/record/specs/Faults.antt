-- The refusal of a graph whose root does not reach every node without a cycle.
use Rattle.peeling.specs.declared.Unrooted.{Unrooted}
use Rattle.peeling.specs.declared.Unrooted.TheVariants as unrooted
use Rattle.record.specs.declared.GraphFault.{GraphFault}
use Rattle.record.specs.declared.GraphFault.TheVariants.{Cyclic, Unreached}

-- a cycle is 6; a node that the root does not reach is 7
abbrev pub fault_of : Unrooted → GraphFault
fault_of unrooted.Cyclic = Cyclic
fault_of unrooted.Apart = Unreached
