-- Expressions of one instruction.
use Rattle.std.proofs.Common.{◌≡◌, Some, None, ℕ, ◌-◌, List, [], ◌∷◌, length, refl, sym, ap, ◌∙◌}
use Rattle.std.specs.Prelude.{slice_get}
use Rattle.wasm_types.specs.declared.instr.Op.{Op}
use Rattle.wasm_types.specs.declared.instr.Expr.{Expr}
use Rattle.wasm_types.specs.declared.instr.Instr.{Instr}
use Rattle.wasm_types.specs.declared.instr.Op.TheVariants as op
use Rattle.wasm_types.specs.Tree.{Code, code_of, expr_tree}
use Rattle.wasm_spec.specs.Validity.{single_instruction}
use Rattle.wasm_types.specs.Sequences.{ops_of, earlier}
use Rattle.wasm_types.proofs.SequenceLemmas.{outermost}

single_of : (before : List Code) (ops : List Op) (i : Instr) → slice_get ops 0 ≡ Some (op.Plain i) → slice_get ops 1 ≡ None → single_instruction (code_of before ops) ≡ Some i
single_of before [] i first none = cc
single_of before (o ∷ []) i first none = let o_is : o ≡ op.Plain i = cc (first) in ap (λ (x : Op). single_instruction (code_of before (x ∷ []))) o_is
single_of before (o ∷ p ∷ ops) i first none = cc

none_of : (before : List Code) (ops : List Op) → ((i : Instr) → slice_get ops 0 ≡ Some (op.Plain i) → slice_get ops 1 ≡ None → ⊥) → single_instruction (code_of before ops) ≡ None
none_of before [] not = refl
none_of before (op.Plain i ∷ []) not = absurd (not i refl refl)
none_of before (op.Plain i ∷ op.Plain j ∷ ops) not = refl
none_of before (op.Plain i ∷ op.Block t k ∷ ops) not = refl
none_of before (op.Plain i ∷ op.Loop t k ∷ ops) not = refl
none_of before (op.Plain i ∷ op.If t k j ∷ ops) not = refl
none_of before (op.Plain i ∷ op.Call x ∷ ops) not = refl
none_of before (op.Plain i ∷ op.CallIndirect x ∷ ops) not = refl
none_of before (op.Block t k ∷ ops) not = refl
none_of before (op.Loop t k ∷ ops) not = refl
none_of before (op.If t k j ∷ ops) not = refl
none_of before (op.Call x ∷ ops) not = refl
none_of before (op.CallIndirect x ∷ ops) not = refl

module _ (e : Expr) (q : ℕ) (at : q ≡ length e.sequences - 1) where
  pub single_is : (i : Instr) → slice_get (ops_of e q) 0 ≡ Some (op.Plain i) → slice_get (ops_of e q) 1 ≡ None → Some i ≡ single_instruction (expr_tree e)
  single_is i first none = sym (single_of (earlier e q) (ops_of e q) i first none) ∙ ap single_instruction (outermost e q at)

  pub not_single : ((i : Instr) → slice_get (ops_of e q) 0 ≡ Some (op.Plain i) → slice_get (ops_of e q) 1 ≡ None → ⊥) → None ≡ single_instruction (expr_tree e)
  not_single not = sym (none_of (earlier e q) (ops_of e q) not) ∙ ap single_instruction (outermost e q at)
