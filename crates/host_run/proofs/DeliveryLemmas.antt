-- A due text is written, whole or in part.
use Rattle.std.proofs.Common.{◌≡◌, ◌⊎◌, ℕ, List, Option, refl, inl, inr, arith}
use Rattle.std.specs.Io.KnownBytes.{Appends}
use Rattle.host_run.specs.Serving.{Delivers, DueAnswer}
use Rattle.host_run.specs.Streams.{AppendsPart}

not_four : (n : ℕ) → (n ≡ 0) ⊎ (n ≡ 2) → n ≡ 4 → ⊥
not_four n (inl zero) four = omega arith
not_four n (inr two) four = omega arith

pub whole_delivered : (Owed : DueAnswer → Type 0) (before after : Option (List ℕ)) (answer : DueAnswer) → Owed answer → (answer.status ≡ 0) ⊎ (answer.status ≡ 2)
    → Appends before after answer.text → Delivers Owed before after answer.status
whole_delivered Owed before after answer owed ends appends = record {
  whole = λ _. (answer, owed, refl, appends);
  part = λ four. absurd (not_four answer.status ends four);
}

pub part_delivered : (Owed : DueAnswer → Type 0) (before after : Option (List ℕ)) (answer : DueAnswer) (status : ℕ) → Owed answer → status ≡ 4
    → AppendsPart before after answer.text → Delivers Owed before after status
part_delivered Owed before after answer status owed four appends = record {
  whole = λ ends. absurd (not_four status ends four);
  part = λ _. (answer, owed, appends);
}
