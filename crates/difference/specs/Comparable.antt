-- What `difference` requires of a table and of two graphs in words.
use Rattle.std.specs.Prelude.{◌≡◌, true, List, ℕ, ◌≤◌, length}
use Rattle.lattice.specs.Table.{accepted}
use Rattle.layout.specs.Layout.{longest}
use Rattle.record.specs.Reads.{Loaded}

-- The table is accepted, and the words of g and of s hold graphs whose records are accepted over this table.
pub record Comparable (n : ℕ) (t g s : List ℕ) : Type 0 where
  pub accepts : accepted n t ≡ true
  pub general : Loaded n g
  pub specific : Loaded n s
  pub short : length s ≤ longest
