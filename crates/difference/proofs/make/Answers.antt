-- `make` meets its contract: the kept nodes are found, then the rows are made.
use Prim.Native.Nat.{ℕ}
use native.Mathlib.Omega.{arith}
use lib.ListN.{length-replicate, get_or-replicate}
use Rattle.lattice.proofs.Laws.{accepted-size}
use Rattle.lattice.proofs.Lawful.{known_more}
use Rattle.difference.proofs.Labels.{wants-known}
use Rattle.difference.proofs.Result.{acyclic-lower, markable-words}
use Rattle.difference.proofs.make.Goals as goal

pub kept_nodes-requires : goal.kept_nodes-requires
kept_nodes-requires c =
    let given = c.requires.0.3 in
    let size = accepted-size c.args.n c.args.table.now given.asked.ok in
    record {
      le_n = (size.0, size.1, wants-known given.asked given.wants);
      markable = (markable-words given.asked given.marked.stands.long (length-replicate {A = ℕ} 255 0), λ v h. get_or-replicate {A = ℕ} 255 v 0 0 h);
      by_index = acyclic-lower given.asked;
    }

pub kept_links-requires : goal.kept_links-requires
kept_links-requires c =
    let given = c.requires.0.3 in
    let size = accepted-size c.args.n c.args.table.now given.asked.ok in
    let labels = wants-known given.asked given.wants in
    record {
      markable = markable-words given.asked given.marked.stands.long c.kept_nodes.ensures.long;
      labels_len = (labels.long, λ v h. known_more (omega (arith, size.1)) (labels.known v h));
      words_len = c.requires.1;
    }

pub returns : goal.returns
returns c = record { keep = _; kept = c.kept_nodes.ensures; rows = c.kept_links.ensures }
