-- A line that shows no bytes counts as that of the same call, which may show them.
use Rattle.std.proofs.Common.{◌≡◌, ◌∙◌, Bool, true, false, List, ℕ, Option, None, Some, Ok, Err, ap, refl, sym, inl, inr}
use Rattle.std.specs.Prelude.{Result}
use Rattle.wasm_values.specs.declared.outcome.Outcome.{Outcome}
use Rattle.wasm_values.specs.declared.outcome.Outcome.TheVariants as outcome
use Rattle.wasm_types.specs.declared.limits.RunLimits.{RunLimits}
use Rattle.wasm_types.specs.Tree.{ModuleTree}
use Rattle.wasm_spec.specs.Loading.{Refusal}
use Rattle.request_calls.specs.declared.invocation.Invocation.{Invocation}
use Rattle.request_calls.specs.Invocations.{shown_of}
use Rattle.request_text.specs.Quiet.{quiet_call}
use Rattle.report_text.specs.declared.report.CallLine.{CallLine}
use Rattle.report_text.specs.declared.report.CallLine.TheVariants as call_line
use Rattle.report_text.specs.Summary.{call_label}
use Rattle.run_books.specs.Lines.{IsCallLine, Limits, ShowsAsked, ShowsCall, end_line}

-- bytes that are shown change no label
end_label : (end : Outcome) (shown : Option (List ℕ)) → call_label (end_line end shown) ≡ call_label (call_line.Done end)
end_label (outcome.Done value) None = refl
end_label (outcome.Done value) (Some bytes) = refl
end_label (outcome.Trap kind) shown = refl
end_label outcome.Fuel shown = refl

asked_aloud : (m : ModuleTree) (limits : RunLimits) (asked : Invocation) (line : CallLine) → ShowsAsked m limits (quiet_call asked) line
    → (how : CallLine) × ShowsAsked m limits asked how × (call_label how ≡ call_label line)
asked_aloud m limits asked line shown = elim shown [
  | inl none ↦ (line, inl none, refl)
  | inr other ↦ elim other [
    | inl bad ↦ (line, inr (inl bad), refl)
    | inr end ↦ (
      end_line end.outcome (shown_of asked end.bytes),
      inr (inr (record { outcome = end.outcome; bytes = end.bytes; ends = end.ends; shows = refl })),
      end_label end.outcome (shown_of asked end.bytes) ∙ sym (end_label end.outcome None) ∙ sym (ap call_label end.shows),
    )
  ]
]

called_aloud : (limits : Limits) (retired : Bool) (loaded : Result ModuleTree Refusal) (asked : Invocation) (line : CallLine) → ShowsCall limits retired loaded (quiet_call asked) line
    → (how : CallLine) × ShowsCall limits retired loaded asked how × (call_label how ≡ call_label line)
called_aloud limits true (Err refusal) asked line shows = (line, shows, refl)
called_aloud limits false (Err refusal) asked line shows = (line, shows, refl)
called_aloud limits true (Ok m) asked line shows = (line, shows, refl)
called_aloud limits false (Ok m) asked line shows = asked_aloud m limits.run asked line shows

-- the line of a call, which counts under the same label as this one
pub record CountsAs (limits : Limits) (bytes : List ℕ) (retired : Bool) (asked : Invocation) (line : CallLine) : Type 0 where
  pub how : CallLine
  pub goes : IsCallLine limits bytes retired asked how
  pub label : call_label how ≡ call_label line

pub line_aloud : (limits : Limits) (bytes : List ℕ) (retired : Bool) (asked : Invocation) (line : CallLine) → IsCallLine limits bytes retired (quiet_call asked) line
    → CountsAs limits bytes retired asked line
line_aloud limits bytes retired asked line is =
    let (how, shows, label) = called_aloud limits retired is.loaded asked line is.shows in
    record { how = how; goes = record { loaded = is.loaded; loads = is.loads; shows = shows }; label = label }
