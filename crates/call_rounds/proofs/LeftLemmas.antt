-- The lane makes the calls of which the board has no line, one after the other.
use Rattle.std.proofs.Common.{◌≡◌, ℕ, ◌+◌, ◌≤◌, Bool, List, [], ◌∷◌, Option, Some, None, refl, sym, ap, ◌∙◌, subst, arith}
use Rattle.std.specs.Prelude.{slice_get, slice_set}
use Rattle.request_calls.specs.declared.invocation.Invocation.{Invocation}
use Rattle.pool_limits.specs.declared.numbers.Numbers.{Numbers}
use Rattle.pool_host.specs.declared.host.Host.{Host}
use Rattle.module_store.specs.declared.naming.Naming.{Ghosts}
use Rattle.pool_host.specs.declared.passes.HostPass.{HostPass}
use Rattle.request_text.specs.declared.request.Directive.{Directive}
use Rattle.request_text.specs.declared.request.Directive.TheVariants.{Module, Call, Retire}
use Rattle.report_text.specs.declared.report.CallLine.{CallLine}
use Rattle.run_books.specs.Entries.{Entry}
use Rattle.call_rounds.specs.Left.{MadeLeft, MadeOnLane}
use Rattle.run_books.specs.Put.{module_at}
use Rattle.run_books.proofs.BoardLemmas.{got_set_other}

abbrev Lines : Type 0
Lines = List (Option CallLine)

-- Those of so many calls were made that had no line, and no line of a call that is left was written: what is made of those that
-- are left completes it.
pub record LeftSoFar {N : Type 0} {G : Ghosts N} (config : Numbers) (lane : Host N) (entries : List Entry) (base : ℕ) (part rest : List Directive) (number : ℕ) (first board : Lines)
    (before now : HostPass N G) : Type 0 where
  pub slots : (j : ℕ) → number ≤ j → slice_get board j ≡ slice_get first j
  pub completes : (after : HostPass N G) → MadeLeft config lane entries first number rest now after → MadeLeft config lane entries first base part before after

module _ {N : Type 0} {G : Ghosts N} (config : Numbers) (lane : Host N) (entries : List Entry) (base : ℕ) (part : List Directive) (first : Lines) (before : HostPass N G) where
  pub left_begin : LeftSoFar config lane entries base part part base first first before before
  left_begin = record { slots = λ j above. refl; completes = λ after h. h }

  module _ (rest : List Directive) (number : ℕ) (board : Lines) (now : HostPass N G) (h : LeftSoFar config lane entries base part rest number first board before now) where
    pub left_end : rest ≡ [] → MadeLeft config lane entries first base part before now
    left_end none = h.completes now (rw none refl)

    module _ (more : List Directive) (d : Directive) (is : rest ≡ d ∷ more) where
      pub left_other : ((tenant place : ℕ) (retired : Bool) (invocation : Invocation) → d ≡ Call tenant place retired invocation → ⊥) → LeftSoFar config lane entries base part more number first board before now
      left_other other = record { slots = h.slots; completes = λ after g. h.completes after (subst (λ (ds : List Directive). MadeLeft config lane entries first number ds now after) (sym is) (with_other d other after g)) }
        where
          with_other : (x : Directive) → ((tenant place : ℕ) (retired : Bool) (invocation : Invocation) → x ≡ Call tenant place retired invocation → ⊥) → (after : HostPass N G)
              → MadeLeft config lane entries first number more now after → MadeLeft config lane entries first number (x ∷ more) now after
          with_other (Module name bytes) not after g = g
          with_other (Retire place name) not after g = g
          with_other (Call tenant place retired invocation) not after g = absurd (not tenant place retired invocation refl)

      module _ (tenant place : ℕ) (retired : Bool) (invocation : Invocation) (call_is : d ≡ Call tenant place retired invocation) where
        had : slice_get board number ≡ slice_get first number
        had = h.slots number (omega arith)

        pub left_had : (line : CallLine) → slice_get board number ≡ Some (Some line) → LeftSoFar config lane entries base part more (number + 1) first board before now
        left_had line stands =
            let stood : slice_get first number ≡ Some (Some line) = sym had ∙ stands in record {
              slots = λ j above. h.slots j (omega arith);
              completes = λ after g. h.completes after (rw (is, call_is, stood) (now, refl, g));
            }

        pub left_made : (line : CallLine) (board' : Lines) (now' : HostPass N G) → slice_get board number ≡ Some None → board' ≡ slice_set board number (Some line)
            → MadeOnLane config lane (module_at entries place) now now' → LeftSoFar config lane entries base part more (number + 1) first board' before now'
        left_made line board' now' none set_is made =
            let stood : slice_get first number ≡ Some None = sym had ∙ none in record {
              slots = λ j above. ap (λ (b : Lines). slice_get b j) set_is ∙ (got_set_other board number j (Some line) (λ same. absurd (omega arith)) ∙ h.slots j (omega arith));
              completes = λ after g. h.completes after (rw (is, call_is, stood) (now', made, g));
            }
