-- The examples of `specs/Examples`, computed.
use mathlib.Core.Path.{◌≡◌, refl}
use mathlib.Core.List.{[], ◌∷◌, ◌++◌, flat_map}
use mathlib.Core.Option.{bind, or_else}
use lib.ListN.{replicate, take}
use Rattle.graphs.specs.Rows.{from, target, links_of}
use Rattle.graphs.specs.Order.{all_of, within as walks, fits_at, subsumes}
use Rattle.graphs.specs.Number.{canonical, visit, each, member, index_of, out_degree, link_count, row_of}
use Rattle.graphs.specs.Generalize.{generalization_by}
use Rattle.graphs.specs.Unify.{any_of, deep}
use Rattle.graphs.specs.OfRows.{same_pair}
use Rattle.lattice.specs.Table.{every, last, below, sized, confined, reflexive, antisymmetric, transitive, least, greatest, ordered, is_meet, is_join, meet, join, bounded}
use Rattle.acceptance.specs.declared.TableFault.TheVariants.{Size}
use Rattle.acceptance.specs.Reply.{opened}
use Rattle.decode.specs.Decode.{bit_of, label_length, label_of, take_links, take_row, take_rows, decoded}
use Rattle.encoder.specs.Encode.{bits_from, is_full, encoded_label, encoded_row, encoded_rows, encoded}
use Rattle.encode.specs.Encode.{fitted, written_out}
use Rattle.peeling.specs.Range.{label_in_range}
use Rattle.record.specs.Read.{in_range, cyclic, reaches_all, reading}
use Rattle.record.specs.declared.GraphFault.TheVariants.{Malformed}
use Rattle.replies.specs.Replies.{Length, NoRoom, Same, Under, Above, Table, Graph, NothingGathered}
use Rattle.replies.specs.declared.Side.TheVariants.{First, Second}
use Rattle.replies.specs.Reply.{resulting}
use Rattle.orders.specs.Ordering.{ordered as orderedRows}
use Rattle.engine.specs.Generalizing.{generalized}
use Rattle.calls.specs.Calls.{rewriting, ordering, generalizing}
use Rattle.gathering.specs.Gathering.{two_bytes, state_of, begun, adding, comparing, finishing}
use Rattle.gathering.specs.Examples.{diamond, P, R, a_over_b, lone_b, lone_top, head, empty, holds_r, holds_p}

module _ where
  pub examples :
      -- Begin gives 8 in room for less than the longest record, and 1 for a table of another size.
      (begun 4 diamond (replicate 57 7) ≡ resulting NoRoom (replicate 57 7)) ×
      (begun 5 diamond [] ≡ resulting (Table Size) []) ×
      -- An order gives 16 after the program's own refusals.
      (comparing empty P ≡ NothingGathered) ×
      (comparing empty [] ≡ (Graph Malformed First)) ×
      (finishing empty [] ≡ resulting NothingGathered []) ×
      -- The first addition writes the program, the next one the common part.
      (adding empty R ≡ resulting (Length 21) holds_r) ×
      (adding holds_r P ≡ resulting (Length 21) holds_p) ×
      (adding holds_r [] ≡ resulting (Graph Malformed First) holds_r) ×
      -- The bytes behind the used ones stay.
      (adding (head ++ (10 ∷ 0 ∷ lone_b ++ replicate 12 7)) a_over_b ≡ resulting (Length 10) (head ++ (10 ∷ 0 ∷ lone_top ++ replicate 12 7))) ×
      -- The order is seen from the program, the first graph.
      (comparing holds_p R ≡ Under) ×
      (comparing holds_r P ≡ Above) ×
      (comparing holds_r R ≡ Same) ×
      -- A finish writes the record, and gives 8 in an output that is one byte short.
      (finishing holds_r (replicate 22 5) ≡ resulting (Length 21) (R ++ (5 ∷ []))) ×
      (finishing holds_r (replicate 20 5) ≡ resulting NoRoom (replicate 20 5)) ×
      -- Bytes that hold no gathering: no table, a cut record, no room.
      (adding [] P ≡ resulting (Table Size) []) ×
      (finishing (take 50 holds_r) [] ≡ resulting (Graph Malformed Second) []) ×
      (comparing (take 50 holds_r) P ≡ (Graph Malformed Second)) ×
      (adding head P ≡ resulting NoRoom head)
  unfolding
      bind or_else
      rewriting ordering orderedRows generalizing generalized
      opened sized ordered confined reflexive antisymmetric transitive least greatest bounded meet is_meet join is_join every last below
      reading decoded take_rows take_row label_length label_of take_links bit_of in_range label_in_range all_of cyclic any_of deep reaches_all
      canonical visit each member target from link_count out_degree row_of links_of index_of
      written_out fitted encoded encoded_rows encoded_row encoded_label is_full bits_from
      generalization_by same_pair
      subsumes walks fits_at flat_map
      two_bytes state_of begun adding comparing finishing
  examples = (refl, refl, refl, refl, refl, refl, refl, refl, refl, refl, refl, refl, refl, refl, refl, refl, refl, refl)
