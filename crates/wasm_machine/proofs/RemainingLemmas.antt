-- How ends pass the open blocks and the callers.
use Rattle.wasm_spec.specs.Execution.{Terms}
use Rattle.std.proofs.Common.{◌≡◌, ℕ, zero, suc, ◌+◌, ◌≤◌, List, [], ◌∷◌, ◌++◌, false, length, take, drop, refl, ap, ◌∙◌, arith}
use Rattle.std.specs.Prelude.{nat_lt}
use Rattle.std.proofs.lemmas.Bool.Decides.{nat_tests}
use Rattle.wasm_values.specs.declared.outcome.Val.{Val}
use Rattle.wasm_values.specs.declared.outcome.TrapKind.{TrapKind}
use Rattle.wasm_types.specs.declared.module.Module.{Module}
use Rattle.wasm_spec.specs.Store.{Store}
use Rattle.wasm_spec.specs.Execution.{State, Next, Branch, Returned, Trapped, OutOfFuel, Continuation, keep}
use Rattle.machine_steps.specs.Configuration.{OpenBlock, Activation, Configuration}
use Rattle.wasm_machine.specs.Remaining.{leave_blocks, return_to, after_sequence}

pub not_below : (a b : ℕ) → b ≤ a → nat_lt a b ≡ false
not_below a b h = grind (arith, nat_tests)

-- where the values are there
pub kept_on : (n : ℕ) (below : List Val) (next : Continuation) (s : State) (fuel : ℕ) → n ≤ length s.operands
    → keep n below next s fuel ≡ next (record s { operands = take n s.operands ++ below }) fuel
kept_on n below next s fuel h = rw (not_below (length s.operands) n h)

module _ (m : Module) (limits : Terms) where
  pub leave_blocks-Returned : (d x : ℕ) (os : List OpenBlock) (s : State) (f : ℕ) → leave_blocks m limits d x os (Returned s, f) ≡ (Returned s, f)
  leave_blocks-Returned d x [] s f = refl
  leave_blocks-Returned d x (o ∷ os) s f = leave_blocks-Returned d x os s f

  leave_blocks-Trapped : (d x : ℕ) (os : List OpenBlock) (t : TrapKind) (store : Store) (f : ℕ) → leave_blocks m limits d x os (Trapped t store, f) ≡ (Trapped t store, f)
  leave_blocks-Trapped d x [] t store f = refl
  leave_blocks-Trapped d x (o ∷ os) t store f = leave_blocks-Trapped d x os t store f

  leave_blocks-OutOfFuel : (d x : ℕ) (os : List OpenBlock) (store : Store) (f : ℕ) → leave_blocks m limits d x os (OutOfFuel store, f) ≡ (OutOfFuel store, f)
  leave_blocks-OutOfFuel d x [] store f = refl
  leave_blocks-OutOfFuel d x (o ∷ os) store f = leave_blocks-OutOfFuel d x os store f

  return_to-Trapped : (x : ℕ) (cs : List Activation) (t : TrapKind) (store : Store) (f : ℕ) → return_to m limits x cs (Trapped t store, f) ≡ (Trapped t store, f)
  return_to-Trapped x [] t store f = refl
  return_to-Trapped x (c ∷ cs) t store f = ap (return_to m limits c.function cs) (leave_blocks-Trapped (length cs + 1) c.function c.blocks t store f) ∙ return_to-Trapped c.function cs t store f

  return_to-OutOfFuel : (x : ℕ) (cs : List Activation) (store : Store) (f : ℕ) → return_to m limits x cs (OutOfFuel store, f) ≡ (OutOfFuel store, f)
  return_to-OutOfFuel x [] store f = refl
  return_to-OutOfFuel x (c ∷ cs) store f = ap (return_to m limits c.function cs) (leave_blocks-OutOfFuel (length cs + 1) c.function c.blocks store f) ∙ return_to-OutOfFuel c.function cs store f

  pub after_sequence-Trapped : (k : Configuration) (t : TrapKind) (store : Store) (f : ℕ) → after_sequence m limits k (Trapped t store, f) ≡ (Trapped t store, f)
  after_sequence-Trapped k t store f = ap (return_to m limits k.function k.activations) (leave_blocks-Trapped (length k.activations + 1) k.function k.blocks t store f) ∙ return_to-Trapped k.function k.activations t store f

  pub after_sequence-OutOfFuel : (k : Configuration) (store : Store) (f : ℕ) → after_sequence m limits k (OutOfFuel store, f) ≡ (OutOfFuel store, f)
  after_sequence-OutOfFuel k store f = ap (return_to m limits k.function k.activations) (leave_blocks-OutOfFuel (length k.activations + 1) k.function k.blocks store f) ∙ return_to-OutOfFuel k.function k.activations store f

  -- the end of a body, and a branch to its own label, are returns
  pub next_back : (x : ℕ) (cs : List Activation) (s : State) (f : ℕ) → return_to m limits x cs (Next s, f) ≡ return_to m limits x cs (Returned s, f)
  next_back x [] s f = refl
  next_back x (c ∷ cs) s f = refl

  pub branch_back : (x : ℕ) (cs : List Activation) (s : State) (f : ℕ) → return_to m limits x cs (Branch 0 s, f) ≡ return_to m limits x cs (Returned s, f)
  branch_back x [] s f = refl
  branch_back x (c ∷ cs) s f = refl

  -- a branch passes the labels within the one that it names
  pub close_in : (d x : ℕ) (os : List OpenBlock) (l : ℕ) (o : OpenBlock) (rest : List OpenBlock) (s : State) (f : ℕ) → drop l os ≡ o ∷ rest
      → leave_blocks m limits d x os (Branch l s, f) ≡ leave_blocks m limits d x (o ∷ rest) (Branch 0 s, f)
  close_in d x os zero o rest s f e = ap (λ (l : List OpenBlock). leave_blocks m limits d x l (Branch 0 s, f)) e
  close_in d x [] (suc l) o rest s f e = absurd (cc)
  close_in d x (p ∷ os) (suc l) o rest s f e = close_in d x os l o rest s f e

  pub close_out : (d x : ℕ) (os : List OpenBlock) (l : ℕ) (s : State) (f : ℕ) → l ≡ length os
      → leave_blocks m limits d x os (Branch l s, f) ≡ (Branch 0 s, f)
  close_out d x [] zero s f e = refl
  close_out d x [] (suc l) s f e = absurd (omega arith)
  close_out d x (o ∷ os) zero s f e = absurd (omega arith)
  close_out d x (o ∷ os) (suc l) s f e = close_out d x os l s f (omega arith)
