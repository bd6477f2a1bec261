-- How many words are held, by the seats that hold them.
use Rattle.std.proofs.Common.{◌≡◌, ℕ, zero, suc, ◌+◌, ◌<◌, ◌≤◌, false, List, [], ◌∷◌, length, get_or, refl, ap, ◌∙◌, arith}
use Rattle.std.specs.Prelude.{Option, Some, None, is_some, ◌==◌}
use Rattle.std.specs.List.{count_by, sum_by}
use Rattle.std.proofs.lemmas.Bool.Decides.{nat_tests}
use Rattle.std.proofs.lemmas.List.Sums.{sum_by-cons}
use Rattle.atomic_table.specs.Table.{State as TableState}
use Rattle.pool_core.specs.declared.words.State.{State}
use Rattle.pool_core.specs.declared.words.StateWord.{StateWord}
use Rattle.pool_core.specs.declared.seats.Seat.{Seat}
use Rattle.pool_core.specs.declared.seats.Stage.TheVariants.{Unmade}
use Rattle.pool_core.specs.StateWords.{bit, cold_word}
use Rattle.pool_core.specs.PoolCore.{PoolCore, word_at, seat_at, idle_seat, is_holding}
use Rattle.pool_core.specs.Lawful.{Lawful}
use Rattle.slot_words.specs.declared.views.PassView.{PassView}
use Rattle.slot_words.specs.declared.views.Bounds.{Bounds}
use Rattle.slot_words.specs.CoreLaws.{CoreLaws}
use Rattle.slot_words.specs.KindCounts.{is_held}
use Rattle.slot_words.specs.Shows.{Shows}
use Rattle.slot_words.specs.Views.{no_view}

-- f 0 + .. + f (n - 1)
abbrev total : (ℕ → ℕ) → ℕ → ℕ
total f zero = 0
total f (suc n) = f 0 + total (λ k. f (suc k)) n

total-same : (f g : ℕ → ℕ) (n : ℕ) → ((k : ℕ) → f k ≡ g k) → total f n ≡ total g n
total-same f g zero same = refl
total-same f g (suc n) same = let a = same 0 in let b = total-same (λ k. f (suc k)) (λ k. g (suc k)) n (λ k. same (suc k)) in omega arith

total-plus : (f g : ℕ → ℕ) (n : ℕ) → total (λ k. f k + g k) n ≡ total f n + total g n
total-plus f g zero = refl
total-plus f g (suc n) = let b = total-plus (λ k. f (suc k)) (λ k. g (suc k)) n in omega arith

total-zero : (f : ℕ → ℕ) (n : ℕ) → ((k : ℕ) → f k ≡ 0) → total f n ≡ 0
total-zero f zero z = refl
total-zero f (suc n) z = let a = z 0 in let b = total-zero (λ k. f (suc k)) n (λ k. z (suc k)) in omega arith

module _ {A : Type 0} where
  -- a sum over a list, by places
  sum_by-total : (f : A → ℕ) (xs : List A) (d : A) → sum_by f xs ≡ total (λ n. f (get_or xs n d)) (length xs)
  sum_by-total f [] d = refl
  sum_by-total f (x ∷ xs) d = sum_by-cons f x xs ∙ ap (λ (k : ℕ). f x + k) (sum_by-total f xs d)

  -- places past the list count nothing
  total-is-sum_by : (f : A → ℕ) (xs : List A) (d : A) (n : ℕ) → f d ≡ 0 → length xs ≤ n → total (λ k. f (get_or xs k d)) n ≡ sum_by f xs
  total-is-sum_by f [] d n z le = total-zero (λ k. f d) n (λ k. z)
  total-is-sum_by f (x ∷ xs) d zero z le = absurd (omega arith)
  total-is-sum_by f (x ∷ xs) d (suc n) z le = let a = total-is-sum_by f xs d n z (omega arith) in let b = sum_by-cons f x xs in omega arith

-- how many numbers a seat holds: one or none
abbrev pub holdings : Seat → ℕ
holdings p = bit (is_some p.holds)

eq_suc : (m n : ℕ) → (suc m == suc n) ≡ (m == n)
eq_suc m n = grind (arith, nat_tests)

zero_is_not : (n : ℕ) → (zero == suc n) ≡ false
zero_is_not n = grind (arith, nat_tests)

is_not_zero : (n : ℕ) → (suc n == 0) ≡ false
is_not_zero n = grind (arith, nat_tests)

-- one number is met once among those up to a bound above it
one_number : (m n : ℕ) → m < n → total (λ k. bit (m == k)) n ≡ 1
one_number m zero below = absurd (omega arith)
one_number zero (suc n) below = let b = total-zero (λ k. bit (zero == suc k)) n (λ k. ap bit (zero_is_not k)) in let a : bit (zero == 0) ≡ 1 = refl in omega arith
one_number (suc m) (suc n) below = let a = one_number m n (omega arith) in let z : bit (suc m == 0) ≡ 0 = ap bit (is_not_zero m) in let b = total-same (λ k. bit (suc m == suc k)) (λ k. bit (m == k)) n (λ k. ap bit (eq_suc m k)) in omega arith

one_seat : (h : Option ℕ) (n : ℕ) → ((m : ℕ) → h ≡ Some m → m < n) → total (λ k. bit (is_holding h k)) n ≡ bit (is_some h)
one_seat None n below = total-zero (λ k. 0) n (λ k. refl)
one_seat (Some m) n below = one_number m n (below m refl)

-- the numbers that are held are as many as the seats that hold one
numbers-are-holdings : (ps : List Seat) (n : ℕ) → ((s m : ℕ) → (get_or ps s (idle_seat Unmade)).holds ≡ Some m → m < n) → total (λ k. count_by (λ p. is_holding p.holds k) ps) n ≡ sum_by holdings ps
numbers-are-holdings [] n below = total-zero (λ k. 0) n (λ k. refl)
numbers-are-holdings (p ∷ ps) n below =
    let a = one_seat p.holds n (below 0) in let b = numbers-are-holdings ps n (λ s. below (suc s)) in let e = sum_by-cons holdings p ps in
    let f = total-same (λ k. count_by (λ q. is_holding q.holds k) (p ∷ ps)) (λ k. bit (is_holding p.holds k) + count_by (λ q. is_holding q.holds k) ps) n (λ k. sum_by-cons (λ (q : Seat). bit (is_holding q.holds k)) p ps) in
    let g = total-plus (λ k. bit (is_holding p.holds k)) (λ k. count_by (λ q. is_holding q.holds k) ps) n in omega arith

module _ (laws : CoreLaws) {V : Type 0} (fits : State → ℕ → V → Type 0) (bounds : Bounds) where
  -- what is summed over the seats is summed over the views that show them
  pub seats-are-shown : (c : PoolCore) (s : TableState (Option V) PassView) → Shows fits bounds c s → (f : Seat → ℕ) → f (idle_seat Unmade) ≡ 0 → sum_by f c.seats ≡ sum_by (λ v. f v.seat) s.views
  seats-are-shown c s o f none =
      let seats : sum_by f c.seats ≡ total (λ n. f (seat_at c n)) (length c.seats) = sum_by-total f c.seats (idle_seat Unmade) in
      let shown : total (λ n. f (seat_at c n)) (length c.seats) ≡ total (λ n. f (get_or s.views n no_view).seat) (length c.seats) = total-same _ _ (length c.seats) (λ n. ap f (o.seat_shows n)) in
      let few : length s.views ≤ length c.seats = let a = o.shared.unsplit_sum in let b = o.seats_are in omega arith in
      seats ∙ shown ∙ total-is-sum_by (λ (v : PassView). f v.seat) s.views no_view (length c.seats) none few

  -- the held words are as many as the passes that hold one
  pub held-are-holdings : (c : PoolCore) (s : TableState (Option V) PassView) → Lawful c → Shows fits bounds c s → count_by is_held c.words ≡ sum_by (λ v. holdings v.seat) s.views
  held-are-holdings c s law o = let f : PassView → ℕ = λ v. holdings v.seat in
      let words : count_by is_held c.words ≡ total (λ n. bit (word_at c n).held) (length c.words) = sum_by-total (λ (w : StateWord). bit w.held) c.words cold_word in
      let held : total (λ n. count_by (λ p. is_holding p.holds n) c.seats) (length c.words) ≡ total (λ n. bit (word_at c n).held) (length c.words) = total-same _ _ (length c.words) law.holders in
      let numbers = numbers-are-holdings c.seats (length c.words) (λ i m h. (laws.seats c i m law h).0) in
      let seats : sum_by holdings c.seats ≡ sum_by f s.views = seats-are-shown c s o holdings refl in
      omega arith
