-- This file is about words that hold rows whose record is accepted: the rows keep the rules of a record, and every node is reached.
use Prim.Native.Nat.{ℕ, ◌≤◌, ◌<◌}
use mathlib.Core.List.{List}
use native.Mathlib.Omega.{arith}
use Rattle.graphs.specs.Graph.{Reached}
use Rattle.lattice.proofs.Lawful.{known_more}
use Rattle.layout.specs.Layout.{Recorded, size, rows_of, graph_in}
use Rattle.layout.proofs.Rows.{length-rows}
use Rattle.encoder.specs.Encode.{encoded}
use Rattle.record.specs.Reads.{Loaded}
use Rattle.record.proofs.Accepted.{Rules, accepted-rules}

pub loaded-rules : {n : ℕ} {ws : List ℕ} → Loaded n ws → Rules n (rows_of ws)
loaded-rules {n} {ws} given = accepted-rules n (encoded (rows_of ws)) (rows_of ws) given.acceptable

pub loaded-reached : {n : ℕ} {ws : List ℕ} → Loaded n ws → (v : ℕ) → v < size ws → Reached (graph_in ws) v
loaded-reached {ws = ws} given v h = (loaded-rules given).reached v (omega (arith, length-rows ws 0 (size ws)))

-- such words hold the graph of a record over a table
pub loaded-recorded : {n : ℕ} {ws : List ℕ} → n ≤ 64 → Loaded n ws → Recorded ws
loaded-recorded few given =
    record {
      sound = given.sound;
      small = given.small;
      short = (loaded-rules given).links;
      typed = λ v h. known_more few (given.typed v h);
    }

-- what an operation on two graphs asks of them
pub both-recorded : {n : ℕ} {g h : List ℕ} → n ≤ 64 → Loaded n g × Loaded n h → Recorded g × Recorded h
both-recorded few (one, other) = (loaded-recorded few one, loaded-recorded few other)
