-- What an exported function yields, by the result of its call.
use mathlib.Core.Path.{◌≡◌, ◌∙◌, ap}
use mathlib.Core.List.{List}
use Prim.Native.Nat.{ℕ}
use Rattle.encode.specs.Encode.{yielding}
use Rattle.replies.specs.Replies.{Reply}
use Rattle.replies.specs.Reply.{Result, resulting}
use Rattle.difference.specs.Explained.{Explained, explained_result}
use Rattle.rows.specs.declared.Row.{Row}
use Rattle.planning.specs.Planning.{Exported, exported_as}
use Rattle.record_engine.specs.Code.{code_of}
use Rattle.record_engine.specs.Coded.{coded, coded_both, yielding_both}
use Rattle.record_engine.specs.CodedRows.{coded_rows, yielding_rows}

-- The code of a call's reply, beside the output that the call leaves.
pub codes : {result : Result} {r : Reply} {k : ℕ} {out : List ℕ} → k ≡ code_of r → resulting r out ≡ result → yielding k out ≡ coded result
codes {out = out} code results = ap (λ (k : ℕ). yielding k out) code ∙ ap coded results

-- The code of a call's reply, beside two outputs.
pub codes-both : {result : Explained} {r : Reply} {k : ℕ} {out reasons : List ℕ} → k ≡ code_of r → explained_result r out reasons ≡ result →
    yielding_both k out reasons ≡ coded_both result
codes-both {out = out} {reasons = reasons} code results = ap (λ (k : ℕ). yielding_both k out reasons) code ∙ ap coded_both results

-- The code of export's reply, beside the rows and node bytes that it fills.
pub codes-rows : {result : Exported} {r : Reply} {k : ℕ} {rows : List Row} {nodes : List ℕ} → k ≡ code_of r → exported_as r rows nodes ≡ result →
    yielding_rows k rows nodes ≡ coded_rows result
codes-rows {rows = rows} {nodes = nodes} code results = ap (λ (k : ℕ). yielding_rows k rows nodes) code ∙ ap coded_rows results
