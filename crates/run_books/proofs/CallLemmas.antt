-- The line of one call, by what became of its module and by its answer.
use Rattle.std.proofs.Common.{◌≡◌, ℕ, Bool, true, false, List, [], Ok, Err, refl, inl, inr}
use Rattle.wasm_types.specs.declared.limits.RunLimits.{RunLimits}
use Rattle.wasm_types.specs.Tree.{ModuleTree}
use Rattle.request_calls.specs.declared.invocation.Invocation.{Invocation}
use Rattle.pool_host.specs.declared.lane.LaneAnswer.{LaneAnswer}
use Rattle.pool_host.specs.declared.lane.LaneAnswer.TheVariants as lane
use Rattle.pool_model.specs.Contents.{Named}
use Rattle.pool_host.specs.CallWords.{IsAnswer, is_retired}
use Rattle.report_text.specs.declared.report.ModuleLine.{ModuleLine}
use Rattle.report_text.specs.declared.report.CallLine.{CallLine}
use Rattle.report_text.specs.declared.report.CallLine.TheVariants as call_line
use Rattle.request_calls.specs.Invocations.{sent_by, shown_of}
use Rattle.run_books.specs.Collected.{answer_line}
use Rattle.run_books.specs.Lines.{IsCallLine, Limits, ShowsAsked}
use Rattle.run_books.specs.Entries.{Entry, IsEntry}

-- the lane answers a call of a module that isn't retired so, and the line is that of the answer
pub record IsAnsweredLine (m : ModuleTree) (limits : RunLimits) (asked : Invocation) (line : CallLine) : Type 0 where
  pub answer : LaneAnswer
  pub bytes : List ℕ
  pub answered : IsAnswer m limits asked.export asked.args (sent_by asked) asked.fuel answer bytes
  pub free : is_retired answer ≡ false
  pub shows : line ≡ answer_line answer (shown_of asked bytes)

-- such a line shows how the call goes, and a line that shows it is such a line
pub shows_answered : (m : ModuleTree) (limits : RunLimits) (asked : Invocation) (a : LaneAnswer) (bytes : List ℕ) (line : CallLine)
    → IsAnswer m limits asked.export asked.args (sent_by asked) asked.fuel a bytes → is_retired a ≡ false → line ≡ answer_line a (shown_of asked bytes) → ShowsAsked m limits asked line
shows_answered m limits asked lane.NoExport bytes line answered free shows = inl (answered.0, shows)
shows_answered m limits asked lane.BadArgs bytes line answered free shows = inr (inl (answered.0, shows))
shows_answered m limits asked lane.Retired bytes line answered free shows = absurd (cc)
shows_answered m limits asked (lane.Done outcome) bytes line answered free shows = inr (inr (record { outcome = outcome; bytes = bytes; ends = answered; shows = shows }))

pub as_answered : (m : ModuleTree) (limits : RunLimits) (asked : Invocation) (line : CallLine) → ShowsAsked m limits asked line → IsAnsweredLine m limits asked line
as_answered m limits asked line shown = elim shown [
  | inl none ↦ record { answer = lane.NoExport; bytes = []; answered = (none.0, refl); free = refl; shows = none.1 }
  | inr other ↦ elim other [
    | inl bad ↦ record { answer = lane.BadArgs; bytes = []; answered = (bad.0, refl); free = refl; shows = bad.1 }
    | inr end ↦ record { answer = lane.Done end.outcome; bytes = end.bytes; answered = end.ends; free = refl; shows = end.shows }
  ]
]

module _ (limits : Limits) (bytes : List ℕ) (e : Entry) where
  pub accepted_call : (named : Named) (invocation : Invocation) (a : LaneAnswer) (said : List ℕ) (line : CallLine) → e ≡ Ok named → IsEntry limits bytes e
      → IsAnswer named.tree limits.run invocation.export invocation.args (sent_by invocation) invocation.fuel a said → is_retired a ≡ false
      → line ≡ answer_line a (shown_of invocation said) → IsCallLine limits bytes false invocation line
  accepted_call named invocation a said line is h answer free shows =
      let k : IsEntry limits bytes (Ok named) = rw is at h in
      record { loaded = Ok named.tree; loads = k; shows = shows_answered named.tree limits.run invocation a said line answer free shows }

  pub retired_call : (named : Named) (invocation : Invocation) → e ≡ Ok named → IsEntry limits bytes e → IsCallLine limits bytes true invocation call_line.Retired
  retired_call named invocation is h =
      let k : IsEntry limits bytes (Ok named) = rw is at h in
      record { loaded = Ok named.tree; loads = k; shows = refl }

  pub refused_call : (line : ModuleLine) (retired : Bool) (invocation : Invocation) → e ≡ Err line → IsEntry limits bytes e → IsCallLine limits bytes retired invocation call_line.NoModule
  refused_call line true invocation is h =
      let k : IsEntry limits bytes (Err line) = rw is at h in
      record { loaded = Err k.0; loads = k.1; shows = refl }
  refused_call line false invocation is h =
      let k : IsEntry limits bytes (Err line) = rw is at h in
      record { loaded = Err k.0; loads = k.1; shows = refl }
