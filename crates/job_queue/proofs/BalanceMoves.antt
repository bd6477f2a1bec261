-- Each step keeps the queue's rule.
use Rattle.std.proofs.Common.{◌≡◌, ◌≢◌, ℕ, ◌+◌, ◌<◌, ◌≤◌, Bool, true, false, true≢false, ◌||◌, List, [], ◌∷◌, ◌++◌, length, set, sym, refl, ap, ◌∙◌, subst, ⊎_elim, append_assoc, append-nil, length-append, arith}
use Rattle.std.specs.Prelude.{sum_by, flat_map}
use Rattle.std.specs.List.Sorted.{IsPermutation}
use Rattle.std.proofs.lemmas.List.Elements.{All-nil, All-push, All-same}
use Rattle.std.proofs.lemmas.List.Sums.{sum_by_push}
use Rattle.std.proofs.lemmas.List.Sorted.{IsPermutation-refl, IsPermutation-append_left, IsPermutation-trans}
use Rattle.crossbeam_queue.specs.Fifo.{Pushes, Pops, Forks, Merges, Learns}
use Rattle.crossbeam_queue.proofs.Lists.{at_set, at_snoc}
use mathlib.Core.Option.{some, some-ne-none}
use lib.ListN.{get_elem?}
use Rattle.job_queue.specs.declared.accounts.Account.{Account}
use Rattle.job_queue.specs.declared.accounts.Terms.{Terms}
use Rattle.job_queue.specs.Accounts.{first_terms, new_account, spent_account, told, parted, with_put, with_given, joined, IsGiven, IsSettledBy, MayBePut}
use Rattle.job_queue.specs.Balance.{one_if, Fits, IsBalanced, Kept}
use Rattle.job_queue.proofs.AccountLists.{All-middle, sum_by-set_at, others_have_none, sum_by-alone, flat_map-alone, flat_map-same, flat_map-push_none, flat_map-grown, flat_map-moved}

none_puts : (b : Bool) → one_if b ≡ 0 → b ≡ false
none_puts true e = absurd (omega arith)
none_puts false e = refl

one_puts : (b : Bool) → one_if b ≡ 1 → b ≡ true
one_puts true e = refl
one_puts false e = absurd (omega arith)

-- of two passes at most one puts
one_if-joined : (p q : Bool) → (p ≡ true → q ≡ false) → one_if (p || q) ≡ one_if p + one_if q
one_if-joined true true apart = absurd (true≢false (apart refl))
one_if-joined true false apart = refl
one_if-joined false true apart = refl
one_if-joined false false apart = refl

module _ {M : Type 0} where
  put_joined : (p q : Bool) (xs ys all : List (ℕ × M)) → (p ≡ true → q ≡ false) → (p ≡ true → xs ≡ all) → (p ≡ false → xs ≡ []) → (q ≡ true → ys ≡ all) → (q ≡ false → ys ≡ [])
      → ((p || q) ≡ true → xs ++ ys ≡ all) × ((p || q) ≡ false → xs ++ ys ≡ [])
  put_joined true true xs ys all apart h k u v = absurd (true≢false (apart refl))
  put_joined true false xs ys all apart h k u v = ((λ _. ap (λ l. xs ++ l) (v refl) ∙ (append-nil xs ∙ h refl)), (λ e. absurd (true≢false e)))
  put_joined false true xs ys all apart h k u v = ((λ _. ap (λ l. l ++ ys) (k refl) ∙ u refl), (λ e. absurd (true≢false e)))
  put_joined false false xs ys all apart h k u v = ((λ e. absurd (true≢false (sym e))), (λ _. ap (λ l. l ++ ys) (k refl) ∙ v refl))

  abbrev Each : (Account M → Type 0) → List (Account M) → Type 0
  Each F accounts = (port : ℕ) (a : Account M) → get_elem? accounts port ≡ some a → F a

  each_set : (F : Account M → Type 0) (accounts : List (Account M)) (port : ℕ) (b : Account M) → F b → ((j : ℕ) (a : Account M) → j ≢ port → get_elem? accounts j ≡ some a → F a) → Each F (set accounts port b)
  each_set F accounts port b mine others j a e = ⊎_elim (λ (x : (j ≡ port) × (b ≡ a)). subst F x.1 mine) (λ (x : (j ≢ port) × (get_elem? accounts j ≡ some a)). others j a x.0 x.1) (at_set accounts port j b a e)

  each_push : (F : Account M → Type 0) (accounts : List (Account M)) (b : Account M) → Each F accounts → F b → Each F (accounts ++ b ∷ [])
  each_push F accounts b each mine j a e = ⊎_elim (λ (x : get_elem? accounts j ≡ some a). each j a x) (λ (is : b ≡ a). subst F is mine) (at_snoc accounts b a j e)

  -- whatever is put beside it, a pass that takes fits
  fits_taker : (terms : Terms) (all all' : List (ℕ × M)) (a : Account M) → a.puts ≡ false → Fits terms all a → Fits terms all' a
  fits_taker terms all all' a takes f = record {
    putter = λ p. absurd (true≢false (sym p ∙ takes));
    taker = f.taker;
    never_puts = f.never_puts;
    never_given = f.never_given;
    told_so = f.told_so;
  }

  fits_spent : (terms was : Terms) (all : List (ℕ × M)) → Fits terms all (spent_account was)
  fits_spent terms was all = record {
    putter = λ p. absurd (true≢false (sym p));
    taker = λ _. refl;
    never_puts = λ _. refl;
    never_given = λ _. refl;
    told_so = λ p. absurd (omega arith);
  }

  -- a pass that puts leaves none that puts beside it
  others_take : (terms : Terms) (gone items : List (ℕ × M)) (accounts : List (Account M)) (port : ℕ) (a : Account M) → IsBalanced terms gone items accounts → get_elem? accounts port ≡ some a → a.puts ≡ true
      → (j : ℕ) (b : Account M) → j ≢ port → get_elem? accounts j ≡ some b → b.puts ≡ false
  others_take terms gone items accounts port a k at puts j b apart e = none_puts b.puts (others_have_none (λ u. one_if u.puts) accounts port a at (ap one_if puts ∙ sym k.one_puts) j b apart e)

  -- the first pass of all, before the queue is told what it was opened with
  pub begins : Kept {M = M} [] (new_account first_terms true ∷ [])
  begins = record {
    terms = first_terms;
    gone = [];
    balance = record {
      shares = refl;
      one_puts = refl;
      given_out = IsPermutation-refl [];
      each = each_push (Fits first_terms []) [] (new_account first_terms true) (λ port a e. absurd (some-ne-none a (sym e)))
          (record { putter = λ _. refl; taker = λ _. refl; never_puts = λ p. absurd (omega arith); never_given = λ p. absurd (omega arith); told_so = λ _. refl });
      numbers = All-nil (λ (x : ℕ × M). MayBePut first_terms x.0);
    };
  }

  pub puts : (n port : ℕ) (a : Account M) (x : ℕ × M) → 0 < a.share → a.puts ≡ true → MayBePut a.terms x.0 → Pushes Kept n port a x (λ b. b ≡ with_put a (x ∷ []))
  puts n port a x live may number items accounts room kept at =
      let b : Account M = with_put a (x ∷ []) in
      let k = kept.balance in
      let mine : Fits kept.terms (kept.gone ++ items) a = k.each port a at in
      let longer : (kept.gone ++ items) ++ x ∷ [] ≡ kept.gone ++ (items ++ x ∷ []) = append_assoc kept.gone items (x ∷ []) in
      let known : a.terms ≡ kept.terms = mine.told_so live in
      let sums = λ (f : Account M → ℕ) (s : f b ≡ f a). let t = sum_by-set_at f accounts port a b at in let r : sum_by f (set accounts port b) ≡ sum_by f accounts = omega arith in r in (
        b,
        record {
          terms = kept.terms;
          gone = kept.gone;
          balance = record {
            shares = sums (λ u. u.share) refl ∙ k.shares;
            one_puts = sums (λ u. one_if u.puts) refl ∙ k.one_puts;
            given_out = subst (IsPermutation kept.gone) (sym (flat_map-same (λ u. u.given) accounts port a b at refl)) k.given_out;
            each = each_set (Fits kept.terms (kept.gone ++ (items ++ x ∷ []))) accounts port b
                (record { putter = λ _. ap (λ l. l ++ x ∷ []) (mine.putter may) ∙ longer; taker = λ p. absurd (true≢false (sym may ∙ p)); never_puts = λ p. absurd (omega arith); never_given = λ p. absurd (omega arith); told_so = mine.told_so })
                (λ j u apart e. fits_taker kept.terms (kept.gone ++ items) (kept.gone ++ (items ++ x ∷ [])) u (others_take kept.terms kept.gone items accounts port a k at may j u apart e) (k.each j u e));
            numbers = All-same (λ (y : ℕ × M). MayBePut kept.terms y.0) (kept.gone ++ (items ++ x ∷ [])) ((kept.gone ++ items) ++ x ∷ []) (sym longer) (All-push (λ (y : ℕ × M). MayBePut kept.terms y.0) (kept.gone ++ items) x k.numbers (subst (λ (t : Terms). MayBePut t x.0) known number));
          };
        },
        refl,
      )

  pub puts_learns : (port : ℕ) (a : Account M) → a.puts ≡ true → Learns Kept port a (λ items. length items ≤ length a.put)
  puts_learns port a may items accounts kept at =
      let e : length a.put ≡ length (kept.gone ++ items) = ap length ((kept.balance.each port a at).putter may) in omega (arith, length-append kept.gone items)

  -- a pass that stands for all put all that was put, and was given all that has gone
  all_alone : (terms : Terms) (gone items : List (ℕ × M)) (accounts : List (Account M)) (port : ℕ) (a : Account M) → IsBalanced terms gone items accounts → get_elem? accounts port ≡ some a → 0 < a.share → a.share ≡ a.terms.passes
      → (a.put ≡ gone ++ items) × IsPermutation gone a.given
  all_alone terms gone items accounts port a k at live whole =
      let mine : Fits terms (gone ++ items) a = k.each port a at in
      let known : a.terms.passes ≡ terms.passes = ap (λ (t : Terms). t.passes) (mine.told_so live) in
      let idle = others_have_none (λ (u : Account M). u.share) accounts port a at (whole ∙ (known ∙ sym k.shares)) in
      let mine_only : flat_map (λ (u : Account M). u.given) accounts ≡ a.given = flat_map-alone (λ (u : Account M). u.given) accounts port a at (λ j b apart e. (k.each j b e).never_given (idle j b apart e)) in
      let only_one : sum_by (λ (u : Account M). one_if u.puts) accounts ≡ one_if a.puts = sum_by-alone (λ (u : Account M). one_if u.puts) accounts port a at (λ j b apart e. ap one_if ((k.each j b e).never_puts (idle j b apart e))) in
      let may : a.puts ≡ true = one_puts a.puts (sym only_one ∙ k.one_puts) in
      (mine.putter may, subst (IsPermutation gone) mine_only k.given_out)

  pub takes : (port : ℕ) (a : Account M) → 0 < a.share → Pops Kept port a (IsGiven a)
  takes port a live x items accounts kept at =
      let b : Account M = with_given a (x ∷ []) in
      let k = kept.balance in
      let gone : List (ℕ × M) = kept.gone ++ x ∷ [] in
      let mine : Fits kept.terms (kept.gone ++ x ∷ items) a = k.each port a at in
      let moved : kept.gone ++ x ∷ items ≡ gone ++ items = sym (append_assoc kept.gone (x ∷ []) items) in
      let known : a.terms ≡ kept.terms = mine.told_so live in
      let number : MayBePut kept.terms x.0 = All-middle (λ (y : ℕ × M). MayBePut kept.terms y.0) kept.gone x items k.numbers in
      let sums = λ (f : Account M → ℕ) (s : f b ≡ f a). let t = sum_by-set_at f accounts port a b at in let r : sum_by f (set accounts port b) ≡ sum_by f accounts = omega arith in r in
      let given : List (Account M) → List (ℕ × M) = flat_map (λ u. u.given) in (
        b,
        record {
          terms = kept.terms;
          gone = gone;
          balance = record {
            shares = sums (λ u. u.share) refl ∙ k.shares;
            one_puts = sums (λ u. one_if u.puts) refl ∙ k.one_puts;
            given_out = IsPermutation-trans gone (given accounts ++ x ∷ []) (given (set accounts port b)) (IsPermutation-append_left (x ∷ []) kept.gone (given accounts) k.given_out) (flat_map-grown (λ u. u.given) accounts port a b (x ∷ []) at refl);
            each = subst (λ l. Each (Fits kept.terms l) (set accounts port b)) moved (each_set (Fits kept.terms (kept.gone ++ x ∷ items)) accounts port b
                (record { putter = mine.putter; taker = mine.taker; never_puts = mine.never_puts; never_given = λ p. absurd (omega arith); told_so = mine.told_so })
                (λ j u apart e. k.each j u e));
            numbers = All-same (λ (y : ℕ × M). MayBePut kept.terms y.0) (gone ++ items) (kept.gone ++ x ∷ items) (sym moved) k.numbers;
          };
        },
        record {
          number_is = subst (λ (t : Terms). MayBePut t x.0) (sym known) number;
          account_is = refl;
          next = λ whole. let alone = all_alone kept.terms kept.gone (x ∷ items) accounts port a k at live whole in record { gone = kept.gone; rest = items; order = alone.0; given_out = alone.1 };
        },
      )

  pub takes_learns : (port : ℕ) (a : Account M) → 0 < a.share → Learns Kept port a (IsSettledBy a)
  takes_learns port a live items accounts kept at whole =
      let alone = all_alone kept.terms kept.gone items accounts port a kept.balance at live whole in
      let P : List (ℕ × M) → Type 0 = λ l. IsPermutation l (a.given ++ items) in subst P (sym alone.0) (IsPermutation-append_left items kept.gone a.given alone.1)

  pub parts : (port : ℕ) (a : Account M) → 1 < a.share → Forks Kept port a (parted a) (new_account a.terms false)
  parts port a several items accounts kept at =
      let left : Account M = parted a in
      let right : Account M = new_account a.terms false in
      let k = kept.balance in
      let mine : Fits kept.terms (kept.gone ++ items) a = k.each port a at in
      let same : a.terms ≡ kept.terms = mine.told_so (omega arith) in
      let lefts : List (Account M) = set accounts port left in
      let F : Account M → Type 0 = Fits kept.terms (kept.gone ++ items) in
      let old : Each F lefts = each_set F accounts port left
      (record { putter = mine.putter; taker = mine.taker; never_puts = λ p. absurd (omega arith); never_given = λ p. absurd (omega arith); told_so = λ _. same })
      (λ j u apart e. k.each j u e) in
      record {
        terms = kept.terms;
        gone = kept.gone;
        balance = record {
          shares = let t = sum_by-set_at (λ u. u.share) accounts port a left at in let p = k.shares in omega (arith, sum_by_push (λ (u : Account M). u.share) lefts right);
          one_puts = let t = sum_by-set_at (λ u. one_if u.puts) accounts port a left at in let p = k.one_puts in omega (arith, sum_by_push (λ (u : Account M). one_if u.puts) lefts right);
          given_out = subst (IsPermutation kept.gone) (sym (flat_map-push_none (λ (u : Account M). u.given) lefts right refl ∙ flat_map-same (λ u. u.given) accounts port a left at refl)) k.given_out;
          each = each_push F lefts right old (record { putter = λ p. absurd (true≢false (sym p)); taker = λ _. refl; never_puts = λ _. refl; never_given = λ _. refl; told_so = λ _. same });
          numbers = k.numbers;
        };
      }

  tells_first : (port : ℕ) (terms : Terms) → 0 < terms.passes → Forks Kept port (new_account {M = M} first_terms true) (told terms (new_account first_terms true)) (spent_account first_terms)
  tells_first port terms live items accounts kept at =
      let a : Account M = new_account first_terms true in
      let left : Account M = told terms a in
      let right : Account M = spent_account first_terms in
      let k = kept.balance in
      let mine : Fits kept.terms (kept.gone ++ items) a = k.each port a at in
      let one : 1 ≡ kept.terms.passes = ap (λ (t : Terms). t.passes) (mine.told_so (omega arith)) in
      let idle = others_have_none (λ (u : Account M). u.share) accounts port a at (one ∙ sym k.shares) in
      let lefts : List (Account M) = set accounts port left in
      let nothing : [] ≡ kept.gone ++ items = mine.putter refl in
      let F : Account M → Type 0 = Fits terms (kept.gone ++ items) in
      let old : Each F lefts = each_set F accounts port left
      (record { putter = mine.putter; taker = mine.taker; never_puts = λ p. absurd (omega arith); never_given = λ _. refl; told_so = λ _. refl })
      (λ j u apart e. let f = k.each j u e in let z = idle j u apart e in record { putter = f.putter; taker = f.taker; never_puts = f.never_puts; never_given = f.never_given; told_so = λ p. absurd (omega arith) }) in
      record {
        terms = terms;
        gone = kept.gone;
        balance = record {
          shares = let t = sum_by-set_at (λ u. u.share) accounts port a left at in let p = k.shares in omega (arith, sum_by_push (λ (u : Account M). u.share) lefts right);
          one_puts = let t = sum_by-set_at (λ u. one_if u.puts) accounts port a left at in let p = k.one_puts in omega (arith, sum_by_push (λ (u : Account M). one_if u.puts) lefts right);
          given_out = subst (IsPermutation kept.gone) (sym (flat_map-push_none (λ (u : Account M). u.given) lefts right refl ∙ flat_map-same (λ u. u.given) accounts port a left at refl)) k.given_out;
          each = each_push F lefts right old (fits_spent terms first_terms (kept.gone ++ items));
          numbers = All-same (λ (y : ℕ × M). MayBePut terms y.0) (kept.gone ++ items) [] (sym nothing) (All-nil (λ (y : ℕ × M). MayBePut terms y.0));
        };
      }

  pub tells : (port : ℕ) (a : Account M) (terms : Terms) → a ≡ new_account first_terms true → 0 < terms.passes → Forks Kept port a (told terms a) (spent_account a.terms)
  tells port a terms first live = let P : Account M → Type 0 = λ u. Forks Kept port u (told terms u) (spent_account u.terms) in subst P (sym first) (tells_first port terms live)

  pub joins : (port : ℕ) (a : Account M) (other : ℕ) (b : Account M) → 0 < a.share → Merges Kept port a other b (joined a b) (spent_account first_terms)
  joins port a other b live items accounts kept at apart at' =
      let both : Account M = joined a b in
      let spent : Account M = spent_account first_terms in
      let k = kept.balance in
      let all : List (ℕ × M) = kept.gone ++ items in
      let F : Account M → Type 0 = Fits kept.terms all in
      let firsts : List (Account M) = set accounts port both in
      let was : get_elem? accounts other ≡ some b = ⊎_elim (λ (x : (other ≡ port) × (both ≡ b)). absurd (apart x.0)) (λ (x : (other ≢ port) × (get_elem? accounts other ≡ some b)). x.1) (at_set accounts port other both b at') in
      let mine : F a = k.each port a at in
      let theirs : F b = k.each other b was in
      let one : a.puts ≡ true → b.puts ≡ false = λ p. others_take kept.terms kept.gone items accounts port a k at p other b apart was in
      let put = put_joined a.puts b.puts a.put b.put all one mine.putter mine.taker theirs.putter theirs.taker in
      let sums = λ (f : Account M → ℕ) (joins : f both ≡ f a + f b) (none : f spent ≡ 0).
      let s = sum_by-set_at f accounts port a both at in
      let t = sum_by-set_at f firsts other b spent at' in
      let r : sum_by f (set firsts other spent) ≡ sum_by f accounts = omega arith in r in
      record {
        terms = kept.terms;
        gone = kept.gone;
        balance = record {
          shares = sums (λ u. u.share) refl refl ∙ k.shares;
          one_puts = sums (λ u. one_if u.puts) (one_if-joined a.puts b.puts one) refl ∙ k.one_puts;
          given_out = IsPermutation-trans kept.gone (flat_map (λ (u : Account M). u.given) accounts) (flat_map (λ (u : Account M). u.given) (set firsts other spent)) k.given_out (flat_map-moved (λ (u : Account M). u.given) accounts port other a b both spent apart at was refl refl);
          each = each_set F firsts other spent (fits_spent kept.terms first_terms all) (λ j u away e. each_set F accounts port both
              (record { putter = put.0; taker = put.1; never_puts = λ p. absurd (omega arith); never_given = λ p. absurd (omega arith); told_so = λ _. mine.told_so live })
              (λ i v beside h. k.each i v h) j u e);
          numbers = k.numbers;
        };
      }
