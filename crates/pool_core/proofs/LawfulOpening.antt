-- A pool is lawful as it opens.
use Rattle.std.proofs.Common.{◌≡◌, ℕ, zero, suc, ◌+◌, ◌-◌, ◌*◌, ◌≤◌, Bool, false, List, ◌∷◌, replicate, get_or, set, refl, sym, ap, ◌∙◌, subst, arith}
use Rattle.std.specs.Prelude.{None}
use Rattle.std.specs.List.{count_by}
use Rattle.std.proofs.lemmas.List.Sums.{sum_by-cons}
use Rattle.std.proofs.lemmas.List.Folds.{sum_by-replicate}
use Rattle.pool_core.specs.declared.seats.Seat.{Seat}
use Rattle.pool_core.specs.declared.seats.Stage.TheVariants.{Live, Unmade}
use Rattle.pool_core.specs.declared.words.StateWord.{StateWord}
use Rattle.pool_core.specs.Lawful.{IsSoundSeat, Lawful, has_mark, has_permit, has_refusal, is_free_awaiting, is_free_warm}
use Rattle.pool_core.specs.Laws.{OpensCold, OpensUnmade}
use Rattle.pool_core.specs.PoolCore.{core_of, idle_seat, is_holding, opening_core}
use Rattle.pool_core.specs.StateWords.{bit, cold_word, is_well_formed}

module _ {A : Type 0} where
  -- a list of one value reads as that value, also past its end
  get_or-replicate_same : (n : ℕ) (x : A) (k : ℕ) → get_or (replicate n x) k x ≡ x
  get_or-replicate_same zero x k = refl
  get_or-replicate_same (suc n) x zero = refl
  get_or-replicate_same (suc n) x (suc k) = get_or-replicate_same n x k

count_none : {A : Type 0} (p : A → Bool) (n : ℕ) (x : A) → p x ≡ false → count_by p (replicate n x) ≡ 0
count_none p n x e = sum_by-replicate (λ y. bit (p y)) n x ∙ (let z : bit (p x) ≡ 0 = ap bit e in let y : n * 0 ≡ 0 = omega arith in ap (λ (k : ℕ). n * k) z ∙ y)

idle_sound : (p : Seat) → p.holds ≡ None → p.out ≡ false → p.permit ≡ false → p.refusal ≡ false → p.mark ≡ false → IsSoundSeat p
idle_sound p a b c d e = record { empty = λ _. (b, c, d, e); away = λ _. a; single = let x : bit p.permit ≡ 0 = ap bit c in let y : bit p.refusal ≡ 0 = ap bit d in omega arith }

pub lawful_opening : (slots limit seats : ℕ) → Lawful (opening_core slots limit seats)
lawful_opening slots limit seats =
    let ws : List StateWord = replicate slots cold_word in let ps : List Seat = replicate (seats - 1) (idle_seat Unmade) in
    let none : (f : Seat → Bool) → f (idle_seat Live) ≡ false → f (idle_seat Unmade) ≡ false → count_by f (idle_seat Live ∷ ps) ≡ 0 =
    λ f a b. sum_by-cons (λ y. bit (f y)) (idle_seat Live) ps ∙ (let x : bit (f (idle_seat Live)) ≡ 0 = ap bit a in let y : count_by f ps ≡ 0 = count_none f (seats - 1) (idle_seat Unmade) b in let g : bit (f (idle_seat Live)) + count_by f ps ≡ 0 = omega arith in g) in
    let w0 : count_by is_free_warm ws ≡ 0 = count_none is_free_warm slots cold_word refl in
    let w1 : count_by is_free_awaiting ws ≡ 0 = count_none is_free_awaiting slots cold_word refl in
    let p0 : count_by has_permit (idle_seat Live ∷ ps) ≡ 0 = none has_permit refl refl in
    let p1 : count_by has_refusal (idle_seat Live ∷ ps) ≡ 0 = none has_refusal refl refl in
    let p2 : count_by has_mark (idle_seat Live ∷ ps) ≡ 0 = none has_mark refl refl in
    let sound : (s : ℕ) → IsSoundSeat (get_or (idle_seat Live ∷ ps) s (idle_seat Unmade)) = elim [
      | zero ↦ idle_sound (idle_seat Live) refl refl refl refl refl
      | suc s ↦ subst IsSoundSeat (sym (get_or-replicate_same (seats - 1) (idle_seat Unmade) s)) (idle_sound (idle_seat Unmade) refl refl refl refl refl)
    ] in
    record {
      holders = λ n. none (λ p. is_holding p.holds n) refl refl ∙ sym (ap (λ (w : StateWord). bit w.held) (get_or-replicate_same slots cold_word n));
      seats = sound;
      warm = rw (w0, p0, p1) refl;
      within = rw (w0, p0) (omega arith);
      awaiting = rw (w1, p2) refl;
      words = λ n. ap (λ (w : StateWord). is_well_formed w.target) (get_or-replicate_same slots cold_word n);
    }

-- the pool that is made of lists of one value each, the first seat then being live
pub opening_is : (slots limit seats l : ℕ) (ws : List StateWord) (ps : List Seat) (p q : Seat) → 1 ≤ seats → ws ≡ replicate slots cold_word → p ≡ idle_seat Unmade → ps ≡ replicate seats p → q ≡ get_or ps 0 q → l ≡ limit
    → core_of ws (set ps 0 (record q { stage = Live })) 0 0 0 l ≡ opening_core slots limit seats
opening_is slots limit zero l ws ps p q some ws_is p_is ps_is q_is l_is = absurd (omega arith)
opening_is slots limit (suc n) l ws ps p q some ws_is p_is ps_is q_is l_is =
    let first : q ≡ idle_seat Unmade = q_is ∙ ap (λ (xs : List Seat). get_or xs 0 q) ps_is ∙ p_is in
    let less : n ≡ suc n - 1 = omega arith in
    let seats : set ps 0 (record q { stage = Live }) ≡ idle_seat Live ∷ replicate (suc n - 1) (idle_seat Unmade) =
    ap (λ (xs : List Seat). set xs 0 (record q { stage = Live })) ps_is ∙ (λ i. record (first i) { stage = Live } ∷ replicate (less i) (p_is i)) in
    λ i. core_of (ws_is i) (seats i) 0 0 0 (l_is i)

pub opens_cold : OpensCold
opens_cold slots limit seats n = get_or-replicate_same slots cold_word n

pub opens_unmade : OpensUnmade
opens_unmade slots limit seats zero some = absurd (omega arith)
opens_unmade slots limit seats (suc s) some = get_or-replicate_same (seats - 1) (idle_seat Unmade) s
