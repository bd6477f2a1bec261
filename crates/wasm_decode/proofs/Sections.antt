-- The sections of a module, one after the other.
use Rattle.std.proofs.Common.{◌≡◌, ℕ, List, [], ◌∷◌, length, sym, ap, ◌∙◌, subst, arith}
use Rattle.wasm_spec.specs.Numbers.{TakesEach}
use Rattle.wasm_spec.specs.Grammar.{Section, TakesSection}
use Rattle.wasm_spec.proofs.UnambiguousModules.{section-unique}
use Rattle.instr_decode.specs.Decoding.{IsNone, BeginsWithNone}
use Rattle.instr_decode.specs.declared.fault.DecodeFault.{DecodeFault}
use Rattle.instr_decode.specs.declared.fault.DecodeFault.TheVariants.{Malformed, NoMemory}

-- before the end, where some of the sections end, the next one stands
next : (done all : List Section) (bytes here : List ℕ) → TakesEach TakesSection done bytes here → TakesEach TakesSection all bytes [] → (here ≡ [] → ⊥)
    → (s : Section) × (mid : List ℕ) × TakesSection s here mid
next [] [] bytes here a w left = absurd (left (a ∙ sym w))
next [] (s ∷ all) bytes here a w left = (s, w.0, subst (λ (l : List ℕ). TakesSection s l w.0) (sym a) w.1)
next (d ∷ done) [] bytes here a w left = absurd (omega (arith, ap length (w ∙ a.1.id)))
next (d ∷ done) (s ∷ all) bytes here a w left =
    let u = section-unique d s bytes a.0 w.0 a.1 w.1 in
    next done all a.0 here a.2 (subst (λ (l : List ℕ). TakesEach TakesSection all l []) (sym u.1) w.2) left

pub sections-none : (done : List Section) (bytes here : List ℕ) (fault : DecodeFault) → TakesEach TakesSection done bytes here → (here ≡ [] → ⊥)
    → BeginsWithNone TakesSection here fault → IsNone (λ ss. TakesEach TakesSection ss bytes []) fault
sections-none done bytes here Malformed a left none = λ ss w. let n = next done ss bytes here a w left in none n.0 n.1 n.2
sections-none done bytes here NoMemory a left none = tt
