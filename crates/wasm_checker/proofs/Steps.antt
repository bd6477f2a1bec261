-- From one step of a checker to the next.
use Rattle.std.proofs.Common.{◌≡◌, ℕ, List, [], ◌∷◌, ◌++◌, reverse, Option, Some, None, Result, Ok, Err, refl, sym, ap, ◌∙◌, subst, ◌+◌, ◌-◌, ◌<◌, ◌≤◌, length, take, get_or, arith}
use Rattle.std.specs.Prelude.{Bool, MatchResult, IsErrAnd, true}
use Rattle.std.proofs.lemmas.List.{reverse-append, take_more, take_all}
use Rattle.wasm_types.specs.declared.types.ValType.{ValType}
use Rattle.wasm_checker.specs.declared.checker.Checker.{Checker}
use Rattle.wasm_checker.specs.declared.fault.CheckFault.{CheckFault}
use Rattle.wasm_checker.specs.declared.fault.CheckFault.TheVariants.{Invalid, NoMemory}
use Rattle.wasm_checker.specs.Check.{HasAny, Stack, and_then, pop_type, pop_types}
use Rattle.wasm_checker.specs.Position.{CheckPosition, ShowsPosition, with_stack}
use Rattle.wasm_checker.specs.Steps.{Refuses, Stepped}

pub refuses : (e : CheckFault) (P Q : Type 0) → (P → Q) → Refuses P e → Refuses Q e
refuses Invalid P Q go h = go h
refuses NoMemory P Q go h = tt

-- a `?`: what one step refuses, the whole refuses
pub exits : {T : Type 0} (X : T → Type 0) (P Q : Type 0) (r : Result T CheckFault) (e : CheckFault) → IsErrAnd r (λ x. x ≡ e) → Refuses P e → (P → Q) → MatchResult r X (Refuses Q)
exits X P Q (Ok x) e is h go = absurd is
exits X P Q (Err x) e is h go = subst (Refuses Q) (sym is) (refuses e P Q go h)

-- the last step, from the stack that the ones before left
pub goes_on : (k : CheckPosition) (s : Stack) (first whole : Option Stack) (w : Checker) (r : Result (Unit {0}) CheckFault) → whole ≡ first
    → MatchResult r (λ _. Stepped first (with_stack k s) w) (Refuses (first ≡ None)) → MatchResult r (λ _. Stepped whole k w) (Refuses (whole ≡ None))
goes_on k s first whole w (Ok x) e m = record { stack = m.stack; is = e ∙ m.is; shows = m.shows }
goes_on k s first whole w (Err x) e m = refuses x (first ≡ None) (whole ≡ None) (λ h. e ∙ h) m

pub then_none : {A : Type 0} (o : Option A) (go : A → Option Stack) → o ≡ None → and_then o go ≡ None
then_none {A = A} o go e = ap (λ (x : Option A). and_then x go) e

pub then_some : {A : Type 0} (o : Option A) (s : A) (go : A → Option Stack) → o ≡ Some s → and_then o go ≡ go s
then_some {A = A} o s go e = ap (λ (x : Option A). and_then x go) e

-- the rest of the operands that are popped
pub record Rest (types rest : List ValType) (k : CheckPosition) (w : Checker) : Type 0 where
  pub stack : Stack
  pub shows : ShowsPosition (with_stack k stack) w
  pub same : pop_types (reverse types) k.stack ≡ pop_types (reverse rest) stack

last_first : (front : List ValType) (t : ValType) (rest : List ValType) → rest ≡ front ++ t ∷ [] → reverse rest ≡ t ∷ reverse front
last_first front t rest e = ap reverse e ∙ reverse-append front (t ∷ [])

last_off : (xs : List ValType) (d : ValType) → 1 ≤ length xs → reverse xs ≡ get_or xs (length xs - 1) d ∷ reverse (take (length xs - 1) xs)
last_off xs d h =
    let n = length xs - 1 in
    let e : n + 1 ≡ length xs = omega arith in
    let s : xs ≡ take n xs ++ get_or xs n d ∷ [] = sym (take_all (length xs) xs (omega arith)) ∙ ap (λ (i : ℕ). take i xs) (sym e) ∙ take_more xs n d (omega arith) in
    last_first (take n xs) (get_or xs n d) xs s

-- where the last operand is there, and where it is not
module _ (types rest : List ValType) (d : ValType) (k : CheckPosition) (w : Checker) (le : 1 ≤ length rest) (r : Rest types rest k w) where
  abbrev last : ValType
  last = get_or rest (length rest - 1) d

  abbrev front : List ValType
  front = take (length rest - 1) rest

  popped : pop_types (reverse types) k.stack ≡ and_then (pop_type last r.stack) (pop_types (reverse front))
  popped = r.same ∙ ap (λ (l : List ValType). pop_types l r.stack) (last_off rest d le)

  pub rest_more : (v : Checker) → Stepped (pop_type last r.stack) (with_stack k r.stack) v → Rest types front k v
  rest_more v x = record { stack = x.stack; shows = x.shows; same = popped ∙ then_some (pop_type last r.stack) x.stack (pop_types (reverse front)) x.is }

  pub rest_none : pop_type last r.stack ≡ None → pop_types (reverse types) k.stack ≡ None
  rest_none none = popped ∙ then_none (pop_type last r.stack) (pop_types (reverse front)) none

pub rest_over : (types rest : List ValType) (k : CheckPosition) (w : Checker) → length rest < 1 → (r : Rest types rest k w) → Stepped (pop_types (reverse types) k.stack) k w
rest_over types [] k w le r = record { stack = r.stack; is = r.same; shows = r.shows }
rest_over types (t ∷ ts) k w le r = absurd (omega arith)

abbrev bare_stack : (peak_operands peak_labels : ℕ) → Stack
bare_stack peak_operands peak_labels = record { unreachable = true; operands = []; peak_operands = peak_operands; peak_labels = peak_labels }

pops_bare : (ts : List ValType) (m n : ℕ) → pop_types ts (bare_stack m n) ≡ Some (bare_stack m n)
pops_bare [] m n = refl
pops_bare (t ∷ ts) m n = pops_bare ts m n

-- operands of all types are there
pub pops_any : (ts : List ValType) (s : Stack) → HasAny s → pop_types ts s ≡ Some s
pops_any ts s any =
    let same : s ≡ bare_stack s.peak_operands s.peak_labels =
    ap (λ (ks : List (Option ValType)). record s { operands = ks }) any.0 ∙ ap (λ (b : Bool). record s { operands = []; unreachable = b }) any.1 in
    ap (pop_types ts) same ∙ pops_bare ts s.peak_operands s.peak_labels ∙ ap (λ (x : Stack). Some x) (sym same)

pub rest_any : (types rest : List ValType) (k : CheckPosition) (w : Checker) (r : Rest types rest k w) → HasAny r.stack → Stepped (pop_types (reverse types) k.stack) k w
rest_any types rest k w r any = record { stack = r.stack; is = r.same ∙ pops_any (reverse rest) r.stack any; shows = r.shows }
