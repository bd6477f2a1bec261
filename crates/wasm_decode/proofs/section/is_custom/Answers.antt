use Rattle.std.proofs.Common.{◌≡◌, ◌↔◌, IsTrue, false, true, refl, subst}
use Rattle.std.specs.Prelude.{Result, Ok, Err, MatchResult, is_ok}
use Rattle.wasm_spec.specs.Numbers.{TakesName}
use Rattle.leb_read.specs.Reading.{CursorView, rest}
use Rattle.wasm_decode.proofs.section.is_custom.Goals as goal

-- a test for a value, where a fact holds exactly of values
ok-exactly : {X E : Type 0} (r : Result X E) (P : X → Type 0) (Q : E → Type 0) (A : Type 0) → MatchResult r P Q → ((x : X) → P x → A) → ((e : E) → Q e → A → ⊥) → IsTrue (is_ok r) ↔ A
ok-exactly (Ok x) P Q A m holds fails = (λ h. holds x m, λ a. refl)
ok-exactly (Err e) P Q A m holds fails = (λ h. absurd (let f : false ≡ true = h in cc), λ a. absurd (fails e m a))

pub returns : goal.returns
returns c =
    rw c.is_ok.ensures.value (ok-exactly c.name.result _ _ _ c.name.ensures
    (λ xs read. record { name = xs.now; after = rest c.name.new.self; spelled = subst (λ (p : CursorView). TakesName xs.now (rest p) (rest c.name.new.self)) c.new.ensures read.spelled })
    (λ e refused h. refused.none h.name h.after (subst (λ (p : CursorView). TakesName h.name (rest p) h.after) (let s : record { whole = c.args.contents.now; place = 0 } ≡ c.new.result = cc in s) h.spelled)))
