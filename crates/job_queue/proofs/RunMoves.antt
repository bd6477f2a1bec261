-- Each step keeps the rule of a run queue.
use Rattle.std.proofs.Common.{◌≡◌, ◌≢◌, ℕ, ◌+◌, ◌<◌, ◌≤◌, List, [], ◌∷◌, ◌++◌, length, set, sym, refl, ap, ◌∙◌, subst, ⊎_elim, append_assoc, length-append, arith}
use Rattle.std.specs.Prelude.{sum_by, flat_map}
use Rattle.std.specs.List.Sorted.{IsPermutation}
use Rattle.std.proofs.lemmas.List.Elements.{All-head, All-nil, All-push, All-tail}
use Rattle.std.proofs.lemmas.List.Sums.{sum_by_push}
use Rattle.std.proofs.lemmas.List.Sorted.{IsPermutation-refl, IsPermutation-append_left, IsPermutation-sym, IsPermutation-trans}
use Rattle.crossbeam_queue.specs.Fifo.{Pushes, Pops, Forks, Merges, Learns}
use Rattle.crossbeam_queue.proofs.Lists.{at_set, at_snoc}
use mathlib.Core.Option.{some, some-ne-none}
use lib.ListN.{get_elem?}
use Rattle.job_queue.specs.declared.run_queue.RunAccount.{RunAccount}
use Rattle.job_queue.specs.declared.run_queue.RunTerms.{RunTerms}
use Rattle.job_queue.specs.RunAccounts.{first_run_account, first_run_terms, new_run_account, spent_run_account, run_told, run_parted, with_run_put, with_run_given, run_joined, IsRunGiven, IsRunSettledBy}
use Rattle.job_queue.specs.RunBalance.{KnowsRun, RunKept}
use Rattle.job_queue.proofs.AccountLists.{sum_by-set_at, others_have_none, flat_map-alone, flat_map-same, flat_map-push_none, flat_map-grown, flat_map-moved}

module _ {T : Type 0} where
  abbrev EachAccount : (RunAccount T → Type 0) → List (RunAccount T) → Type 0
  EachAccount F accounts = (port : ℕ) (a : RunAccount T) → get_elem? accounts port ≡ some a → F a

  each_set : (F : RunAccount T → Type 0) (accounts : List (RunAccount T)) (port : ℕ) (b : RunAccount T) → F b → ((j : ℕ) (a : RunAccount T) → j ≢ port → get_elem? accounts j ≡ some a → F a) → EachAccount F (set accounts port b)
  each_set F accounts port b mine others j a e = ⊎_elim (λ (x : (j ≡ port) × (b ≡ a)). subst F x.1 mine) (λ (x : (j ≢ port) × (get_elem? accounts j ≡ some a)). others j a x.0 x.1) (at_set accounts port j b a e)

  each_push : (F : RunAccount T → Type 0) (accounts : List (RunAccount T)) (b : RunAccount T) → EachAccount F accounts → F b → EachAccount F (accounts ++ b ∷ [])
  each_push F accounts b each mine j a e = ⊎_elim (λ (x : get_elem? accounts j ≡ some a). each j a x) (λ (is : b ≡ a). subst F is mine) (at_snoc accounts b a j e)

  abbrev puts : List (RunAccount T) → List T
  puts = flat_map (λ u. u.put)

  abbrev gives : List (RunAccount T) → List T
  gives = flat_map (λ u. u.given)

  spent_knows : (terms was : RunTerms) → KnowsRun {T = T} terms (spent_run_account was)
  spent_knows terms was = record { told_so = λ p. absurd (omega arith); never_put = λ _. refl; never_given = λ _. refl }

module _ {T : Type 0} (fits : T → Type 0) where
  pub run_begins : RunKept fits [] (first_run_account ∷ [])
  run_begins = record {
    terms = first_run_terms;
    balance = record {
      shares = refl;
      rooms = refl;
      even = IsPermutation-refl [];
      each = each_push (KnowsRun first_run_terms) [] first_run_account (λ port a e. absurd (some-ne-none a (sym e)))
          (record { told_so = λ _. refl; never_put = λ p. absurd (omega arith); never_given = λ p. absurd (omega arith) });
    };
    fit = All-nil fits;
  }

  pub run_puts : (n port : ℕ) (a : RunAccount T) (x : T) → 0 < a.share → 0 < a.room → fits x → Pushes (RunKept fits) n port a x (λ b. b ≡ with_run_put a (x ∷ []))
  run_puts n port a x live may fit items accounts room kept at =
      let b : RunAccount T = with_run_put a (x ∷ []) in
      let k = kept.balance in
      let mine : KnowsRun kept.terms a = k.each port a at in
      let t = sum_by-set_at (λ u. u.share) accounts port a b at in
      let s = sum_by-set_at (λ u. u.room) accounts port a b at in
      let shares = k.shares in
      let rooms = k.rooms in
      let long = length-append items (x ∷ []) in
      let same : gives (set accounts port b) ≡ gives accounts = flat_map-same (λ u. u.given) accounts port a b at refl in
      let grown : IsPermutation (puts accounts ++ x ∷ []) (puts (set accounts port b)) = flat_map-grown (λ u. u.put) accounts port a b (x ∷ []) at refl in
      let now : IsPermutation (puts accounts ++ x ∷ []) ((gives accounts ++ items) ++ x ∷ []) = IsPermutation-append_left (x ∷ []) (puts accounts) (gives accounts ++ items) k.even in
      let P : List T → Type 0 = λ l. IsPermutation (puts (set accounts port b)) l in (
        b,
        record {
          terms = kept.terms;
          balance = record {
            shares = omega (arith, t, shares);
            rooms = omega (arith, s, rooms, long);
            even = subst P (append_assoc (gives accounts) items (x ∷ []) ∙ ap (λ l. l ++ (items ++ x ∷ [])) (sym same))
                (IsPermutation-trans (puts (set accounts port b)) (puts accounts ++ x ∷ []) ((gives accounts ++ items) ++ x ∷ []) (IsPermutation-sym (puts accounts ++ x ∷ []) (puts (set accounts port b)) grown) now);
            each = each_set (KnowsRun kept.terms) accounts port b
                (record { told_so = mine.told_so; never_put = λ p. absurd (omega arith); never_given = λ p. absurd (omega arith) })
                (λ j u apart e. k.each j u e);
          };
          fit = All-push fits items x kept.fit fit;
        },
        refl,
      )

  has_room : (accounts : List (RunAccount T)) (port : ℕ) (a : RunAccount T) → get_elem? accounts port ≡ some a → a.room ≤ sum_by (λ u. u.room) accounts
  has_room accounts port a at = let t = sum_by-set_at (λ u. u.room) accounts port a (spent_run_account first_run_terms) at in omega (arith, t)

  pub run_puts_learn : (port : ℕ) (a : RunAccount T) → 0 < a.share → 0 < a.room → Learns (RunKept fits) port a (λ items. length items < a.terms.capacity)
  run_puts_learn port a live may items accounts kept at =
      let k = kept.balance in
      let known = ap (λ (t : RunTerms). t.capacity) ((k.each port a at).told_so live) in
      let rooms = k.rooms in
      omega (arith, has_room accounts port a at, rooms, known)

  pub run_takes_learn : (port : ℕ) (a : RunAccount T) → 0 < a.share → Learns (RunKept fits) port a (IsRunSettledBy a)
  run_takes_learn port a live items accounts kept at whole =
      let k = kept.balance in
      let known : a.terms.passes ≡ kept.terms.passes = ap (λ (t : RunTerms). t.passes) ((k.each port a at).told_so live) in
      let idle = others_have_none (λ (u : RunAccount T). u.share) accounts port a at (whole ∙ (known ∙ sym k.shares)) in
      let put_only : puts accounts ≡ a.put = flat_map-alone (λ (u : RunAccount T). u.put) accounts port a at (λ j b apart e. (k.each j b e).never_put (idle j b apart e)) in
      let given_only : gives accounts ≡ a.given = flat_map-alone (λ (u : RunAccount T). u.given) accounts port a at (λ j b apart e. (k.each j b e).never_given (idle j b apart e)) in
      subst (λ l. IsPermutation a.put (l ++ items)) given_only (subst (λ l. IsPermutation l (gives accounts ++ items)) put_only k.even)

  pub run_takes : (port : ℕ) (a : RunAccount T) → 0 < a.share → Pops (RunKept fits) port a (IsRunGiven fits a)
  run_takes port a live x items accounts kept at =
      let b : RunAccount T = with_run_given a (x ∷ []) in
      let k = kept.balance in
      let mine : KnowsRun kept.terms a = k.each port a at in
      let t = sum_by-set_at (λ u. u.share) accounts port a b at in
      let s = sum_by-set_at (λ u. u.room) accounts port a b at in
      let shares = k.shares in
      let rooms = k.rooms in
      let same : puts (set accounts port b) ≡ puts accounts = flat_map-same (λ u. u.put) accounts port a b at refl in
      let grown : IsPermutation (gives accounts ++ x ∷ []) (gives (set accounts port b)) = flat_map-grown (λ u. u.given) accounts port a b (x ∷ []) at refl in
      let moved : gives accounts ++ x ∷ items ≡ (gives accounts ++ x ∷ []) ++ items = sym (append_assoc (gives accounts) (x ∷ []) items) in
      let P : List T → Type 0 = λ l. IsPermutation l (gives (set accounts port b) ++ items) in (
        b,
        record {
          terms = kept.terms;
          balance = record {
            shares = omega (arith, t, shares);
            rooms = omega (arith, s, rooms);
            even = subst P (sym same) (IsPermutation-trans (puts accounts) ((gives accounts ++ x ∷ []) ++ items) (gives (set accounts port b) ++ items)
                (subst (IsPermutation (puts accounts)) moved k.even) (IsPermutation-append_left items (gives accounts ++ x ∷ []) (gives (set accounts port b)) grown));
            each = each_set (KnowsRun kept.terms) accounts port b
                (record { told_so = mine.told_so; never_put = λ p. absurd (omega arith); never_given = λ p. absurd (omega arith) })
                (λ j u apart e. k.each j u e);
          };
          fit = All-tail fits x items kept.fit;
        },
        record {
          fit = All-head fits x items kept.fit;
          account_is = refl;
          left = λ whole. record { rest = items; left = run_takes_learn port a live (x ∷ items) accounts kept at whole };
        },
      )

  pub run_parts : (port : ℕ) (a : RunAccount T) → 1 < a.share → Forks (RunKept fits) port a (run_parted a) (new_run_account a.terms)
  run_parts port a several items accounts kept at =
      let left : RunAccount T = run_parted a in
      let right : RunAccount T = new_run_account a.terms in
      let k = kept.balance in
      let mine : KnowsRun kept.terms a = k.each port a at in
      let same : a.terms ≡ kept.terms = mine.told_so (omega arith) in
      let lefts : List (RunAccount T) = set accounts port left in
      let F : RunAccount T → Type 0 = KnowsRun kept.terms in
      let old : EachAccount F lefts = each_set F accounts port left
      (record { told_so = λ _. same; never_put = λ p. absurd (omega arith); never_given = λ p. absurd (omega arith) })
      (λ j u apart e. k.each j u e) in
      let put_same : puts (lefts ++ right ∷ []) ≡ puts accounts = flat_map-push_none (λ (u : RunAccount T). u.put) lefts right refl ∙ flat_map-same (λ u. u.put) accounts port a left at refl in
      let given_same : gives (lefts ++ right ∷ []) ≡ gives accounts = flat_map-push_none (λ (u : RunAccount T). u.given) lefts right refl ∙ flat_map-same (λ u. u.given) accounts port a left at refl in
      record {
        terms = kept.terms;
        balance = record {
          shares = let t = sum_by-set_at (λ u. u.share) accounts port a left at in let p = k.shares in omega (arith, sum_by_push (λ (u : RunAccount T). u.share) lefts right);
          rooms = let t = sum_by-set_at (λ u. u.room) accounts port a left at in let p = k.rooms in omega (arith, sum_by_push (λ (u : RunAccount T). u.room) lefts right);
          even = subst (λ l. IsPermutation l (gives (lefts ++ right ∷ []) ++ items)) (sym put_same) (subst (λ l. IsPermutation (puts accounts) (l ++ items)) (sym given_same) k.even);
          each = each_push F lefts right old (record { told_so = λ _. same; never_put = λ _. refl; never_given = λ _. refl });
        };
        fit = kept.fit;
      }

  tells_first : (port : ℕ) (terms : RunTerms) → 0 < terms.passes → Forks (RunKept fits) port (first_run_account {T = T}) (run_told terms first_run_account) (spent_run_account first_run_terms)
  tells_first port terms live items accounts kept at =
      let a : RunAccount T = first_run_account in
      let left : RunAccount T = run_told terms a in
      let right : RunAccount T = spent_run_account first_run_terms in
      let k = kept.balance in
      let mine : KnowsRun kept.terms a = k.each port a at in
      let known : first_run_terms ≡ kept.terms = mine.told_so (omega arith) in
      let one : 1 ≡ kept.terms.passes = ap (λ (t : RunTerms). t.passes) known in
      let none : 0 ≡ kept.terms.capacity = ap (λ (t : RunTerms). t.capacity) known in
      let idle = others_have_none (λ (u : RunAccount T). u.share) accounts port a at (one ∙ sym k.shares) in
      let lefts : List (RunAccount T) = set accounts port left in
      let F : RunAccount T → Type 0 = KnowsRun terms in
      let old : EachAccount F lefts = each_set F accounts port left
      (record { told_so = λ _. refl; never_put = λ _. refl; never_given = λ _. refl })
      (λ j u apart e. let f = k.each j u e in let z = idle j u apart e in record { told_so = λ p. absurd (omega arith); never_put = f.never_put; never_given = f.never_given }) in
      let put_same : puts (lefts ++ right ∷ []) ≡ puts accounts = flat_map-push_none (λ (u : RunAccount T). u.put) lefts right refl ∙ flat_map-same (λ u. u.put) accounts port a left at refl in
      let given_same : gives (lefts ++ right ∷ []) ≡ gives accounts = flat_map-push_none (λ (u : RunAccount T). u.given) lefts right refl ∙ flat_map-same (λ u. u.given) accounts port a left at refl in
      record {
        terms = terms;
        balance = record {
          shares = let t = sum_by-set_at (λ u. u.share) accounts port a left at in let p = k.shares in omega (arith, sum_by_push (λ (u : RunAccount T). u.share) lefts right);
          rooms = let t = sum_by-set_at (λ u. u.room) accounts port a left at in let p = k.rooms in omega (arith, sum_by_push (λ (u : RunAccount T). u.room) lefts right);
          even = subst (λ l. IsPermutation l (gives (lefts ++ right ∷ []) ++ items)) (sym put_same) (subst (λ l. IsPermutation (puts accounts) (l ++ items)) (sym given_same) k.even);
          each = each_push F lefts right old (spent_knows terms first_run_terms);
        };
        fit = kept.fit;
      }

  pub run_tells : (port : ℕ) (a : RunAccount T) (terms : RunTerms) → a ≡ first_run_account → 0 < terms.passes → Forks (RunKept fits) port a (run_told terms a) (spent_run_account a.terms)
  run_tells port a terms first live = let P : RunAccount T → Type 0 = λ u. Forks (RunKept fits) port u (run_told terms u) (spent_run_account u.terms) in subst P (sym first) (tells_first port terms live)

  pub run_joins : (port : ℕ) (a : RunAccount T) (other : ℕ) (b : RunAccount T) → 0 < a.share → Merges (RunKept fits) port a other b (run_joined a b) (spent_run_account first_run_terms)
  run_joins port a other b live items accounts kept at apart at' =
      let both : RunAccount T = run_joined a b in
      let spent : RunAccount T = spent_run_account first_run_terms in
      let k = kept.balance in
      let F : RunAccount T → Type 0 = KnowsRun kept.terms in
      let firsts : List (RunAccount T) = set accounts port both in
      let was : get_elem? accounts other ≡ some b = ⊎_elim (λ (x : (other ≡ port) × (both ≡ b)). absurd (apart x.0)) (λ (x : (other ≢ port) × (get_elem? accounts other ≡ some b)). x.1) (at_set accounts port other both b at') in
      let mine : F a = k.each port a at in
      let sums = λ (f : RunAccount T → ℕ) (joins : f both ≡ f a + f b) (none : f spent ≡ 0).
      let s = sum_by-set_at f accounts port a both at in
      let t = sum_by-set_at f firsts other b spent at' in
      let r : sum_by f (set firsts other spent) ≡ sum_by f accounts = omega arith in r in
      let put_moved : IsPermutation (puts accounts) (puts (set firsts other spent)) = flat_map-moved (λ (u : RunAccount T). u.put) accounts port other a b both spent apart at was refl refl in
      let given_moved : IsPermutation (gives accounts) (gives (set firsts other spent)) = flat_map-moved (λ (u : RunAccount T). u.given) accounts port other a b both spent apart at was refl refl in
      record {
        terms = kept.terms;
        balance = record {
          shares = sums (λ u. u.share) refl refl ∙ k.shares;
          rooms = ap (λ (n : ℕ). n + length items) (sums (λ u. u.room) refl refl) ∙ k.rooms;
          even = IsPermutation-trans (puts (set firsts other spent)) (puts accounts) (gives (set firsts other spent) ++ items) (IsPermutation-sym (puts accounts) (puts (set firsts other spent)) put_moved)
              (IsPermutation-trans (puts accounts) (gives accounts ++ items) (gives (set firsts other spent) ++ items) k.even (IsPermutation-append_left items (gives accounts) (gives (set firsts other spent)) given_moved));
          each = each_set F firsts other spent (spent_knows kept.terms first_run_terms) (λ j u away e. each_set F accounts port both
              (record { told_so = λ _. mine.told_so live; never_put = λ p. absurd (omega arith); never_given = λ p. absurd (omega arith) })
              (λ i v beside h. k.each i v h) j u e);
        };
        fit = kept.fit;
      }
