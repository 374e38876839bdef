-- `map_at` meets its contract: the number of eight bytes, lowest byte first, is their word.
use mathlib.Core.Path.{◌≡◌, ◌∙◌}
use Prim.Native.Nat.{◌+◌, ◌-◌}
use native.Mathlib.Omega.{arith}
use lib.ListN.{drop}
use Rattle.std.proofs.lemmas.List.{get_or-take}
use Rattle.decode.proofs.Word.{le_word}
use Rattle.decode.proofs.reader.map_at.Goals as goal

pub returns : goal.returns
returns c =
    let a = c.args in
    let chunk = (rw c.unwrap.ensures at c.try_into.ensures).1 in
    let long : 8 ≡ a.at + 8 - a.at = omega arith in
    c.from_le_bytes.ensures
    ∙ le_word _ c.unwrap.result
    (λ i h. rw chunk.same (get_or-take (a.at + 8 - a.at) (drop a.at a.bytes.now) i 0 (omega arith)))
