-- Which hand-in completes a batch of four.
use Rattle.std.proofs.Common.{◌≡◌, ℕ, ◌-◌, leb, MatchBool, List, [], ◌∷◌, subst}
use Rattle.slot_words.specs.declared.views.Operation.{Operation}
use Rattle.slot_words.specs.declared.views.Operation.TheVariants.{AwaitUp}
use Rattle.decommit_batch.specs.Flush.{IsFlush}
use Rattle.decommit_batch.specs.HandIn.{FlushesAt, IsHandIn, WaitsAt, handed_in}

-- the count that was read decides
by_count : (limit slots n tag batch a s : ℕ) (flushed : List Operation) → IsHandIn limit slots n tag batch (AwaitUp a ∷ handed_in n tag s flushed)
    → MatchBool (leb (batch - 1) a) (IsFlush limit slots flushed) (flushed ≡ [])
by_count limit slots n tag batch a s flushed is =
    let count : is.0 ≡ a = cc (is.3) in let rest : is.2 ≡ flushed = cc (is.3) in
    subst (λ (os : List Operation). MatchBool (leb (batch - 1) a) (IsFlush limit slots os) (os ≡ [])) rest
    (subst (λ (k : ℕ). MatchBool (leb (batch - 1) k) (IsFlush limit slots is.2) (is.2 ≡ [])) count is.4)

pub third_waits : WaitsAt 4 2
third_waits limit slots n tag s flushed is = by_count limit slots n tag 4 2 s flushed is

pub fourth_flushes : FlushesAt 4 3
fourth_flushes limit slots n tag s flushed is = by_count limit slots n tag 4 3 s flushed is

pub fifth_flushes : FlushesAt 4 4
fifth_flushes limit slots n tag s flushed is = by_count limit slots n tag 4 4 s flushed is
