-- The turns of the walk: each comes to what the last one came to, with less left to check.
use Rattle.std.proofs.Common.{◌≡◌, ℕ, ◌+◌, ◌-◌, ◌<◌, List, [], ◌∷◌, ◌++◌, length, drop, get_or, Option, Some, None, Result, Ok, Err, refl, sym, ap, ◌∙◌, subst, arith, length-append}
use Rattle.std.specs.Prelude.{MatchResult, slice_get}
use Rattle.std.proofs.lemmas.List.{get_or_push}
use Rattle.wasm_types.specs.declared.types.ValType.{ValType}
use Rattle.wasm_types.specs.declared.types.ValType.TheVariants.{I32}
use Rattle.wasm_types.specs.declared.instr.Instr.{Instr}
use Rattle.wasm_types.specs.declared.instr.Op.{Op}
use Rattle.wasm_types.specs.declared.instr.Op.TheVariants as op
use Rattle.wasm_types.specs.declared.module.Function.{Function}
use Rattle.wasm_types.specs.declared.module.Module.{Module}
use Rattle.wasm_types.specs.Tree.{Code, End, code_of}
use Rattle.wasm_spec.specs.Typing.{result_types, under, Rule, rule, call_rule, call_indirect_rule}
use Rattle.wasm_checker.specs.declared.checker.ControlFrame.{ControlFrame}
use Rattle.wasm_checker.specs.declared.checker.Checker.{Checker}
use Rattle.wasm_checker.specs.declared.fault.CheckFault.{CheckFault}
use Rattle.wasm_checker.specs.Check.{Stack, and_then, pop_type, when, no_more, apply, pop_types, push_types, end_block, leave, enter, check, empty_stack}
use Rattle.wasm_types.specs.Sequences.{ops_of, earlier, code_at, named_in}
use Rattle.wasm_types.proofs.SequenceLemmas.{code_at-within, code_at-past}
use Rattle.wasm_checker.specs.Subject.{result_of}
use Rattle.wasm_checker.specs.Position.{EnclosingBlock, CheckPosition, with_stack, base_of, back, inside, frame_of, frames_of, ShowsPosition, opened, outside}
use Rattle.wasm_checker.specs.Steps.{Refuses, Stepped}
use Rattle.wasm_checker.specs.Walk.{follows, goes_on, close, remaining, size, second_weight, weights, weight, ComesTo, Advanced, checking, whole}
use Rattle.wasm_checker.proofs.Steps.{refuses, then_none, then_some}

then_same : (o : Option Stack) (go go' : Stack → Option Stack) → ((e : Stack) → go e ≡ go' e) → and_then o go ≡ and_then o go'
then_same None go go' h = refl
then_same (Some s) go go' h = h s

module _ (m : Module) (f : Function) where
  -- how a turn of the walk ends, where so much was left to check
  abbrev Turn : Checker → ℕ → Option Stack → Result (Unit {0}) CheckFault → Type 0
  Turn u n o r = MatchResult r (λ _. Advanced m f u n o) (Refuses (o ≡ None))

  close_none : (os : List EnclosingBlock) → close m f os None ≡ None
  close_none [] = refl
  close_none (o ∷ os) = close_none os

  -- where a step that comes first is refused, so is all
  refused : {A : Type 0} (os : List EnclosingBlock) (first : Option A) (go : A → Option Stack) (o : Option Stack) → close m f os (and_then first go) ≡ o → first ≡ None → o ≡ None
  refused {A = A} os first go o e none = sym e ∙ ap (close m f os) (then_none first go none) ∙ close_none os

  weight_parts : (k : CheckPosition) (w : Checker) → ShowsPosition k w → weight f w ≡ size (code_at f.body k.sequence k.place) + weights f (frames_of k.blocks)
  unfolding weight
  weight_parts k w s =
      ap (λ (q : ℕ). size (code_at f.body q w.place) + weights f w.frames.items) s.sequence
      ∙ ap (λ (p : ℕ). size (code_at f.body k.sequence p) + weights f w.frames.items) s.place
      ∙ ap (λ (cs : List ControlFrame). size (code_at f.body k.sequence k.place) + weights f cs) s.frames

  weights-append : (a b : List ControlFrame) → weights f (a ++ b) ≡ weights f a + weights f b
  weights-append [] b = omega arith
  weights-append (c ∷ a) b = omega (arith, weights-append a b)

  -- behind an instruction, where the walk has come from w
  pub record AtInstruction (w : Checker) (i : Op) (o : Option Stack) : Type 0 where
    pub position : CheckPosition
    pub shows : ShowsPosition position (record w { place = w.place + 1 })
    pub is : checking m f i position ≡ o
    pub weighs : weight f w ≡ size (code_of (earlier f.body position.sequence) (i ∷ drop position.place (ops_of f.body position.sequence))) + weights f (frames_of position.blocks)

  pub begins : (w : Checker) (i : Op) (o : Option Stack) → ComesTo m f w o → slice_get (ops_of f.body w.sequence) w.place ≡ Some i → AtInstruction w i o
  begins w i o l here =
      let k = l.position in
      let s = l.shows in
      let at : slice_get (ops_of f.body k.sequence) k.place ≡ Some i = ap (λ (q : ℕ). slice_get (ops_of f.body q) k.place) (sym s.sequence) ∙ ap (λ (p : ℕ). slice_get (ops_of f.body w.sequence) p) (sym s.place) ∙ here in
      let c = code_at-within f.body k.sequence k.place i at in
      record {
        position = record k { place = k.place + 1 };
        shows = record { sequence = s.sequence; place = ap (λ (p : ℕ). p + 1) s.place; unreachable = s.unreachable; base = s.base; operands = s.operands; frames = s.frames; peak_operands = s.peak_operands; peak_labels = s.peak_labels };
        is = ap (λ (x : Code). close m f k.blocks (check (base_of k.blocks) (inside m f k.blocks) x k.stack)) (sym c) ∙ l.is;
        weighs = weight_parts k w s ∙ ap (λ (x : Code). size x + weights f (frames_of k.blocks)) c;
      }

  -- what follows at a place
  abbrev after_place : CheckPosition → Stack → Option Stack
  after_place k s = check (base_of k.blocks) (inside m f k.blocks) (code_at f.body k.sequence k.place) s

  -- an instruction with this rule
  rule_turn : (u : Checker) (k : CheckPosition) (i : Rule) (r : Result (Unit {0}) CheckFault) (n : ℕ) (o : Option Stack)
      → close m f k.blocks (and_then (apply (base_of k.blocks) i k.stack) (after_place k)) ≡ o
      → n ≡ size (code_at f.body k.sequence k.place) + 1 + weights f (frames_of k.blocks)
      → MatchResult r (λ _. Stepped (apply (base_of k.blocks) i k.stack) k u) (Refuses (apply (base_of k.blocks) i k.stack ≡ None)) → Turn u n o r
  rule_turn u k i (Ok x) n o is weighs a = record {
    comes_to = record { position = with_stack k a.stack; shows = a.shows; is = ap (close m f k.blocks) (sym (then_some (apply (base_of k.blocks) i k.stack) a.stack (after_place k) a.is)) ∙ is };
    less = omega (arith, weighs, weight_parts (with_stack k a.stack) u a.shows);
  }
  rule_turn u k i (Err x) n o is weighs a = refuses x (apply (base_of k.blocks) i k.stack ≡ None) (o ≡ None) (refused k.blocks (apply (base_of k.blocks) i k.stack) (after_place k) o is) a

  pub plain_turn : (w u : Checker) (i : Instr) (r : Result (Unit {0}) CheckFault) (o : Option Stack) → (d : AtInstruction w (op.Plain i) o)
      → let rule_is = rule (inside m f d.position.blocks) i in MatchResult r (λ _. Stepped (apply (base_of d.position.blocks) rule_is d.position.stack) d.position u) (Refuses (apply (base_of d.position.blocks) rule_is d.position.stack ≡ None))
      → Turn u (weight f w) o r
  plain_turn w u i r o d a = rule_turn u d.position (rule (inside m f d.position.blocks) i) r (weight f w) o d.is (omega (arith, d.weighs)) a

  pub call_turn : (w u : Checker) (x : ℕ) (r : Result (Unit {0}) CheckFault) (o : Option Stack) → (d : AtInstruction w (op.Call x) o)
      → let rule_is = call_rule (inside m f d.position.blocks) x in MatchResult r (λ _. Stepped (apply (base_of d.position.blocks) rule_is d.position.stack) d.position u) (Refuses (apply (base_of d.position.blocks) rule_is d.position.stack ≡ None))
      → Turn u (weight f w) o r
  call_turn w u x r o d a = rule_turn u d.position (call_rule (inside m f d.position.blocks) x) r (weight f w) o d.is (omega (arith, d.weighs)) a

  pub call_indirect_turn : (w u : Checker) (x : ℕ) (r : Result (Unit {0}) CheckFault) (o : Option Stack) → (d : AtInstruction w (op.CallIndirect x) o)
      → let rule_is = call_indirect_rule (inside m f d.position.blocks) x in MatchResult r (λ _. Stepped (apply (base_of d.position.blocks) rule_is d.position.stack) d.position u) (Refuses (apply (base_of d.position.blocks) rule_is d.position.stack ≡ None))
      → Turn u (weight f w) o r
  call_indirect_turn w u x r o d a = rule_turn u d.position (call_indirect_rule (inside m f d.position.blocks) x) r (weight f w) o d.is (omega (arith, d.weighs)) a

  abbrev opens : CheckPosition → Option ValType → Option ValType → Option ℕ → ℕ → CheckPosition
  opens k l t second q = opened (result_of m f) k l t second q

  -- the code of a sequence that is named where the walk stands
  named : (v : Checker) (k : CheckPosition) (q inner : ℕ) → ShowsPosition k v → code_at f.body inner 0 ≡ named_in f.body v.sequence q → named_in f.body k.sequence q ≡ code_at f.body inner 0
  named v k q inner s e = ap (λ (n : ℕ). named_in f.body n q) (sym s.sequence) ∙ sym e

  -- an instruction that enters code, before which the stack is s
  enters : (u : Checker) (k : CheckPosition) (s : Stack) (l t : Option ValType) (second : Option ℕ) (q n : ℕ) (code : Code) (go : Stack → Option Stack) (r : Result (Unit {0}) CheckFault) (o : Option Stack)
      → MatchResult r (λ _. ShowsPosition (opens (with_stack k s) l t second q) u) (Refuses ⊥)
      → code ≡ code_at f.body q 0
      → close m f k.blocks (and_then (end_block t (check (base_of k.blocks + length s.operands) (under (result_types l) (inside m f k.blocks)) (code) (enter (inside m f k.blocks) s))) go) ≡ o
      → ((e : Stack) → go e ≡ goes_on m f second (record { label_type = l; end_type = t; second = second; unreachable = s.unreachable; operands = s.operands; sequence = k.sequence; after = k.place }) k.blocks e)
      → n ≡ size (code) + second_weight f second + size (code_at f.body k.sequence k.place) + 1 + weights f (frames_of k.blocks)
      → Turn u n o r
  enters u k s l t second q n code go (Err x) o h same is goes weighs = refuses x ⊥ (o ≡ None) (λ no. absurd no) h
  enters u k s l t second q n code go (Ok x) o h same is goes weighs =
      let b : EnclosingBlock = record { label_type = l; end_type = t; second = second; unreachable = s.unreachable; operands = s.operands; sequence = k.sequence; after = k.place } in
      let C = inside m f k.blocks in
      let inner : Code → Option Stack = λ x. end_block t (check (base_of k.blocks + length s.operands) (under (result_types l) C) x (enter C s)) in
      let x = weight_parts (opens (with_stack k s) l t second q) u h in
      let y = weights-append (frames_of k.blocks) (frame_of b k.blocks ∷ []) in
      let z : size (code) ≡ size (code_at f.body q 0) = ap size same in
      record {
        comes_to = record {
          position = opens (with_stack k s) l t second q;
          shows = h;
          is = ap (close m f k.blocks) (ap (λ (y : Code). and_then (inner y) (goes_on m f second b k.blocks)) (sym same) ∙ sym (then_same (inner (code)) go (goes_on m f second b k.blocks) goes)) ∙ is;
        };
        less = omega (arith, x, y, z, weighs);
      }

  pub block_turn : (w u : Checker) (t : Option ValType) (q inner : ℕ) (r : Result (Unit {0}) CheckFault) (o : Option Stack) → code_at f.body inner 0 ≡ named_in f.body w.sequence q → (d : AtInstruction w (op.Block t q) o)
      → MatchResult r (λ _. ShowsPosition (opens d.position t t None inner) u) (Refuses ⊥) → Turn u (weight f w) o r
  block_turn w u t q inner r o e d h =
      let k = d.position in
      enters u k k.stack t t None inner (weight f w) (named_in f.body k.sequence q) (λ e. after_place k (push_types (base_of k.blocks) (result_types t) (leave k.stack e))) r o h
      (named (record w { place = w.place + 1 }) k q inner d.shows e) d.is (λ e. refl) (omega (arith, d.weighs))

  pub loop_turn : (w u : Checker) (t : Option ValType) (q inner : ℕ) (r : Result (Unit {0}) CheckFault) (o : Option Stack) → code_at f.body inner 0 ≡ named_in f.body w.sequence q → (d : AtInstruction w (op.Loop t q) o)
      → MatchResult r (λ _. ShowsPosition (opens d.position None t None inner) u) (Refuses ⊥) → Turn u (weight f w) o r
  loop_turn w u t q inner r o e d h =
      let k = d.position in
      enters u k k.stack None t None inner (weight f w) (named_in f.body k.sequence q) (λ e. after_place k (push_types (base_of k.blocks) (result_types t) (leave k.stack e))) r o h
      (named (record w { place = w.place + 1 }) k q inner d.shows e) d.is (λ e. refl) (omega (arith, d.weighs))

  abbrev arms : CheckPosition → Option ValType → ℕ → ℕ → Stack → Option Stack
  arms k t q p u =
      and_then (end_block t (check (base_of k.blocks + length u.operands) (under (result_types t) (inside m f k.blocks)) (named_in f.body k.sequence q) (enter (inside m f k.blocks) u)))
      (λ v. and_then (end_block t (check (base_of k.blocks + length u.operands) (under (result_types t) (inside m f k.blocks)) (named_in f.body k.sequence p) (enter (inside m f k.blocks) (leave u v))))
      (λ e. after_place k (push_types (base_of k.blocks) (result_types t) (leave u e))))

  -- an if without a condition
  pub if_none : (w : Checker) (t : Option ValType) (q p : ℕ) (o : Option Stack) → (d : AtInstruction w (op.If t q p) o) → pop_type I32 d.position.stack ≡ None → o ≡ None
  if_none w t q p o d none = refused d.position.blocks (pop_type I32 d.position.stack) (arms d.position t q p) o d.is none

  pub if_turn : (w x u : Checker) (t : Option ValType) (q p first second : ℕ) (r : Result (Unit {0}) CheckFault) (o : Option Stack) → code_at f.body first 0 ≡ named_in f.body w.sequence q → code_at f.body second 0 ≡ named_in f.body w.sequence p
      → (d : AtInstruction w (op.If t q p) o) → (y : Stepped (pop_type I32 d.position.stack) d.position x)
      → MatchResult r (λ _. ShowsPosition (opens (with_stack d.position y.stack) t t (Some second) first) u) (Refuses ⊥) → Turn u (weight f w) o r
  if_turn w x u t q p first second r o ef es d y h =
      let k = d.position in
      let z = y.stack in
      let P : Code → Stack → Option Stack = λ c v. and_then (end_block t (check (base_of k.blocks + length z.operands) (under (result_types t) (inside m f k.blocks)) c (enter (inside m f k.blocks) (leave z v))))
      (λ e. after_place k (push_types (base_of k.blocks) (result_types t) (leave z e))) in
      let v = record w { place = w.place + 1 } in
      let fst = named v k q first d.shows ef in
      let snd = named v k p second d.shows es in
      let i = ap size snd in
      enters u k z t t (Some second) first (weight f w) (named_in f.body k.sequence q) (P (named_in f.body k.sequence p)) r o h fst
      (ap (close m f k.blocks) (sym (then_some (pop_type I32 k.stack) z (arms k t q p) y.is)) ∙ d.is)
      (λ v. ap (λ (c : Code). P c v) snd) (omega (arith, d.weighs, i))

  -- at the end of inner code
  pub record AtEnd (w : Checker) (o : Option Stack) : Type 0 where
    pub position : CheckPosition
    pub inner : EnclosingBlock
    pub outer : List EnclosingBlock
    pub nested : position.blocks ≡ inner ∷ outer
    pub shows : ShowsPosition position w
    pub is : close m f outer (and_then (end_block inner.end_type (Some position.stack)) (goes_on m f inner.second inner outer)) ≡ o
    pub weighs : weight f w ≡ 1 + size (code_at f.body inner.sequence inner.after) + second_weight f inner.second + weights f (frames_of outer)

  at_end_as : (w : Checker) (o : Option Stack) (k : CheckPosition) (os : List EnclosingBlock) → k.blocks ≡ os → ShowsPosition k w → remaining m f k ≡ o → code_at f.body k.sequence k.place ≡ End → 0 < length w.frames.items → AtEnd w o
  at_end_as w o k [] e s g c lt = absurd (omega (arith, ap length s.frames, ap (λ (x : List EnclosingBlock). length (frames_of x)) e))
  at_end_as w o k (b ∷ os) e s g c lt =
      let g1 : close m f (b ∷ os) (check (base_of (b ∷ os)) (inside m f (b ∷ os)) End k.stack) ≡ o =
      ap (λ (x : Code). close m f (b ∷ os) (check (base_of (b ∷ os)) (inside m f (b ∷ os)) x k.stack)) (sym c)
      ∙ ap (λ (x : List EnclosingBlock). close m f x (check (base_of x) (inside m f x) (code_at f.body k.sequence k.place) k.stack)) (sym e) ∙ g in
      record {
        position = k;
        inner = b;
        outer = os;
        nested = e;
        shows = s;
        is = g1;
        weighs = omega (arith, weight_parts k w s, ap size c, ap (λ (x : List EnclosingBlock). weights f (frames_of x)) e, weights-append (frames_of os) (frame_of b os ∷ []));
      }

  ended_at : (k : CheckPosition) (w : Checker) → ShowsPosition k w → slice_get (ops_of f.body w.sequence) w.place ≡ None → code_at f.body k.sequence k.place ≡ End
  ended_at k w s h = code_at-past f.body k.sequence k.place (ap (λ (q : ℕ). slice_get (ops_of f.body q) k.place) (sym s.sequence) ∙ ap (λ (p : ℕ). slice_get (ops_of f.body w.sequence) p) (sym s.place) ∙ h)

  pub at_end : (w : Checker) (o : Option Stack) → ComesTo m f w o → slice_get (ops_of f.body w.sequence) w.place ≡ None → 0 < length w.frames.items → AtEnd w o
  at_end w o l h lt = at_end_as w o l.position l.position.blocks refl l.shows l.is (ended_at l.position w l.shows h) lt

  pub frame_last : (w : Checker) (o : Option Stack) (d : AtEnd w o) (n : ℕ) (c : ControlFrame) → n ≡ length w.frames.items → c ≡ get_or w.frames.items (n - 1) c → c ≡ frame_of d.inner d.outer
  frame_last w o d n c en ec =
      let e : w.frames.items ≡ frames_of d.outer ++ frame_of d.inner d.outer ∷ [] = d.shows.frames ∙ ap frames_of d.nested in
      let m : length (frames_of d.outer) ≡ n - 1 = omega (arith, en, ap length e, length-append (frames_of d.outer) (frame_of d.inner d.outer ∷ [])) in
      ec ∙ ap (λ (l : List ControlFrame). get_or l (n - 1) c) e ∙ get_or_push (frames_of d.outer) (frame_of d.inner d.outer) c (n - 1) m

  end_block_operands : (s e : Stack) (ks : List (Option ValType)) → s.operands ≡ ks → when (no_more s ks) (Some s) ≡ Some e → e.operands ≡ []
  end_block_operands s e [] q h = let same : e ≡ s = cc (h) in ap (λ (x : Stack). x.operands) same ∙ q
  end_block_operands s e (k ∷ ks) q h = cc

  end_block_empty_as : (o : Option Stack) (e : Stack) → and_then o (λ s. when (no_more s s.operands) (Some s)) ≡ Some e → e.operands ≡ []
  end_block_empty_as None e h = cc
  end_block_empty_as (Some s) e h = end_block_operands s e s.operands refl h

  end_block_empty : (t : Option ValType) (s e : Stack) → end_block t (Some s) ≡ Some e → e.operands ≡ []
  end_block_empty t s e h = end_block_empty_as (pop_types (result_types t) s) e h

  -- inner code whose frame this is
  module _ (w : Checker) (o : Option Stack) (d : AtEnd w o) (c : ControlFrame) (framed : c ≡ frame_of d.inner d.outer) where
    ending : end_block c.end_type (Some d.position.stack) ≡ end_block d.inner.end_type (Some d.position.stack)
    ending = ap (λ (x : ControlFrame). end_block x.end_type (Some d.position.stack)) framed

    -- that does not end with its results
    pub end_none : end_block c.end_type (Some d.position.stack) ≡ None → o ≡ None
    end_none none = refused d.outer (end_block d.inner.end_type (Some d.position.stack)) (goes_on m f d.inner.second d.inner d.outer) o d.is (sym ending ∙ none)

    -- that does: the operands are gone, and this is what follows
    module _ (v : Checker) (x : Stepped (end_block c.end_type (Some d.position.stack)) d.position v) where
      pub emptied : x.stack.operands ≡ []
      emptied = end_block_empty c.end_type d.position.stack x.stack x.is

      onward : close m f d.outer (goes_on m f d.inner.second d.inner d.outer x.stack) ≡ o
      onward = ap (close m f d.outer) (sym (then_some (end_block d.inner.end_type (Some d.position.stack)) x.stack (goes_on m f d.inner.second d.inner d.outer) (sym ending ∙ x.is))) ∙ d.is

      second_is : (second : Option ℕ) → c.second ≡ second → d.inner.second ≡ second
      second_is second e = sym (ap (λ (x : ControlFrame). x.second) framed) ∙ e

      -- the results are pushed
      results_as : (u : Checker) (t : Option ValType) (r : Result (Unit {0}) CheckFault) → t ≡ d.inner.end_type → d.inner.second ≡ None
          → MatchResult r (λ _. Stepped (Some (push_types (base_of d.outer) (result_types t) (back d.inner x.stack))) (outside d.inner d.outer x.stack) u) (Refuses (Some (push_types (base_of d.outer) (result_types t) (back d.inner x.stack)) ≡ None)) → Turn u (weight f w) o r
      results_as u t (Err e) same none h = refuses e (Some (push_types (base_of d.outer) (result_types t) (back d.inner x.stack)) ≡ None) (o ≡ None) (λ no. cc (no)) h
      results_as u t (Ok y) same none h =
          let given : push_types (base_of d.outer) (result_types t) (back d.inner x.stack) ≡ h.stack = cc (h.is) in
          let s : push_types (base_of d.outer) (result_types d.inner.end_type) (back d.inner x.stack) ≡ h.stack =
          ap (λ (y : Option ValType). push_types (base_of d.outer) (result_types y) (back d.inner x.stack)) (sym same) ∙ given in
          record {
            comes_to = record {
              position = with_stack (outside d.inner d.outer x.stack) h.stack;
              shows = h.shows;
              is = ap (λ (y : Stack). close m f d.outer (check (base_of d.outer) (inside m f d.outer) (code_at f.body d.inner.sequence d.inner.after) y)) (sym s)
                  ∙ ap (λ (y : Option ℕ). close m f d.outer (goes_on m f y d.inner d.outer x.stack)) (sym none) ∙ onward;
            };
            less = omega (arith, weight_parts (with_stack (outside d.inner d.outer x.stack) h.stack) u h.shows, d.weighs);
          }

      pub results_turn : (u : Checker) (r : Result (Unit {0}) CheckFault) → c.second ≡ None
          → MatchResult r (λ _. Stepped (Some (push_types (base_of d.outer) (result_types c.end_type) (back d.inner x.stack))) (outside d.inner d.outer x.stack) u) (Refuses (Some (push_types (base_of d.outer) (result_types c.end_type) (back d.inner x.stack)) ≡ None)) → Turn u (weight f w) o r
      results_turn u r none h = results_as u c.end_type r (ap (λ (x : ControlFrame). x.end_type) framed) (second_is None none) h

      -- the other arm is entered
      second_as : (u : Checker) (l t : Option ValType) (q : ℕ) (r : Result (Unit {0}) CheckFault) → l ≡ d.inner.label_type → t ≡ d.inner.end_type → d.inner.second ≡ Some q
          → MatchResult r (λ _. ShowsPosition (opens (outside d.inner d.outer x.stack) l t None q) u) (Refuses ⊥) → Turn u (weight f w) o r
      second_as u l t q r samel same some h =
          let b = d.inner in
          let k : CheckPosition = outside b d.outer x.stack in
          let S : Option ValType → Option ValType → Type 0 = λ y z. MatchResult r (λ _. ShowsPosition (opens k y z None q) u) (Refuses ⊥) in
          let h' : S b.label_type b.end_type = subst (λ (y : Option ValType). S y b.end_type) samel (subst (λ (z : Option ValType). S l z) same h) in
          enters u k (back b x.stack) b.label_type b.end_type None q (weight f w) (code_at f.body q 0) (follows m f b d.outer) r o h' refl
          (ap (λ (y : Option ℕ). close m f d.outer (goes_on m f y b d.outer x.stack)) (sym some) ∙ onward)
          (λ e. refl) (omega (arith, d.weighs, ap (second_weight f) some))

      pub second_turn : (u : Checker) (q : ℕ) (r : Result (Unit {0}) CheckFault) → c.second ≡ Some q
          → MatchResult r (λ _. ShowsPosition (opens (outside d.inner d.outer x.stack) c.label_type c.end_type None q) u) (Refuses ⊥) → Turn u (weight f w) o r
      second_turn u q r some h = second_as u c.label_type c.end_type q r (ap (λ (x : ControlFrame). x.label_type) framed) (ap (λ (x : ControlFrame). x.end_type) framed) (second_is (Some q) some) h

  -- the beginning
  abbrev pub outermost : CheckPosition
  outermost = record { sequence = length f.body.sequences - 1; place = 0; stack = empty_stack; blocks = [] }

  pub start_comes_to : (w : Checker) → ShowsPosition outermost w → ComesTo m f w (whole m f)
  start_comes_to w s = record { position = outermost; shows = s; is = refl }

  -- the end of the body
  body_ends_as : (w : Checker) (o : Option Stack) (k : CheckPosition) (os : List EnclosingBlock) → k.blocks ≡ os → ShowsPosition k w → remaining m f k ≡ o → code_at f.body k.sequence k.place ≡ End → length w.frames.items ≡ 0
      → end_block (result_of m f) (Some k.stack) ≡ o
  body_ends_as w o k (b ∷ os) e s g c z = absurd (omega (arith, z, ap length s.frames, ap (λ (x : List EnclosingBlock). length (frames_of x)) e, length-append (frames_of os) (frame_of b os ∷ [])))
  body_ends_as w o k [] e s g c z =
      ap (λ (x : Code). end_block (result_of m f) (check 0 (inside m f []) x k.stack)) (sym c)
      ∙ ap (λ (x : List EnclosingBlock). close m f x (check (base_of x) (inside m f x) (code_at f.body k.sequence k.place) k.stack)) (sym e) ∙ g

  pub body_ends : (w : Checker) (o : Option Stack) → (l : ComesTo m f w o) → slice_get (ops_of f.body w.sequence) w.place ≡ None → length w.frames.items ≡ 0 → end_block (result_of m f) (Some l.position.stack) ≡ o
  body_ends w o l h z = body_ends_as w o l.position l.position.blocks refl l.shows l.is (ended_at l.position w l.shows h) z
