-- The calls of a round are put with their modules, one after the other.
use Rattle.std.proofs.Common.{◌≡◌, ◌≢◌, ⊎_elim, ℕ, zero, suc, ◌+◌, ◌-◌, ◌<◌, ◌≤◌, ◌==◌, Bool, true, false, List, [], ◌∷◌, ◌++◌, Option, Some, None, length, drop, take, replicate, refl, sym, ap, ◌∙◌, subst, arith, append_assoc, append-nil, length-append, cond}
use Rattle.std.specs.Prelude.{slice_get, count_by}
use Rattle.std.specs.List.{All}
use Rattle.std.proofs.lemmas.Bool.{cases_eq}
use Rattle.std.proofs.lemmas.Bool.Decides.{nat_tests}
use Rattle.std.proofs.lemmas.List.{length-replicate, replicate_more}
use Rattle.std.proofs.lemmas.List.Elements.{All-append, All-cons, All-nil, All-replicate}
use Rattle.std.proofs.lemmas.List.Sums.{sum_by-append, sum_by-cons}
use Rattle.request_calls.specs.declared.invocation.Invocation.{Invocation}
use Rattle.pool_model.specs.Contents.{Named}
use Rattle.job_queue.specs.declared.accounts.Account.{Account}
use Rattle.job_queue.specs.Accounts.{with_put}
use Rattle.request_text.specs.declared.request.Directive.{Directive}
use Rattle.request_text.specs.declared.request.Directive.TheVariants.{Module, Call, Retire}
use Rattle.request_text.specs.Text.{call_count}
use Rattle.call_jobs.specs.Entries.{EndsAll, Pair}
use Rattle.run_books.specs.declared.books.Span.{Span}
use Rattle.run_books.specs.Collected.{call_at}
use Rattle.run_books.specs.Entries.{Entry}
use Rattle.run_books.specs.Put.{HasPut, module_at, module_of, pairs_from, pairs_put}
use Rattle.run_books.specs.Books.{IsSpan, directives_in}
use Rattle.wasm_spec.proofs.FunctionNumbers.{in_front}
use Rattle.run_books.proofs.PlaceLemmas.{call_count-call, call_count-module, call_count-retire, call_of_part, calls_next, calls_part, fewer_calls, part_got, part_none}

abbrev Puts : Type 0
Puts = Account (Option Named)

module_at_left : (entries more : List Entry) (place : ℕ) → place < length entries → module_at (entries ++ more) place ≡ module_at entries place
module_at_left entries more place lt = rw (in_front entries more place lt) refl

pub module_there : (entries : List Entry) (place : ℕ) (e : Entry) (m : Option Named) → slice_get entries place ≡ Some e → m ≡ module_of e → m ≡ module_at entries place
module_there entries place e m got is = rw got is

-- The calls of a round before a place were put, each with its module: whatever are the entries of the modules that are left, the calls that
-- are left complete those of the round.
pub record PutsLeft (all : List Directive) (span : Span) (at : ℕ) (entries : List Entry) (number : ℕ) (before after : Account (Option Named)) : Type 0 where
  pub number_is : number ≡ call_count (take at all)
  pub putter : after.puts ≡ true
  pub many : length after.put + span.calls ≡ number
  pub given : after.given ≡ before.given
  pub share : after.share ≡ before.share
  pub completes : (more : List Entry) → after.put ++ pairs_from (entries ++ more) (number + 1) (drop at (take span.to all)) ≡ pairs_from (entries ++ more) (span.calls + 1) (directives_in all span)

module _ (all : List Directive) (span : Span) (is_span : IsSpan all span) where
  pub puts_begin : (entries : List Entry) (a : Puts) → a.puts ≡ true → a.put ≡ [] → PutsLeft all span span.from entries span.calls a a
  puts_begin entries a puts none = record {
    number_is = is_span.calls_are;
    putter = puts;
    many = (let l = ap length none in omega arith);
    given = refl;
    share = refl;
    completes = λ more. ap (λ (ps : List Pair). ps ++ pairs_from (entries ++ more) (span.calls + 1) (directives_in all span)) none;
  }

  -- as many as the round has calls
  pub calls_of_span : call_count (take span.to all) ≡ span.calls + call_count (directives_in all span)
  calls_of_span = let p = calls_part all span.from span.to is_span.order in let c = is_span.calls_are in omega arith

  module _ (at : ℕ) (entries : List Entry) (number : ℕ) (before after : Puts) (h : PutsLeft all span at entries number before after) where
    pub puts_end : span.to ≤ at → HasPut (pairs_from entries (span.calls + 1) (directives_in all span)) before after
    puts_end past =
        let none = part_none all at span.to past in
        let whole : after.put ++ [] ≡ pairs_from (entries ++ []) (span.calls + 1) (directives_in all span) = ap (λ (ds : List Directive). after.put ++ pairs_from (entries ++ []) (number + 1) ds) (sym none) ∙ h.completes [] in
        record { put = sym (append-nil after.put) ∙ (whole ∙ ap (λ (es : List Entry). pairs_from es (span.calls + 1) (directives_in all span)) (append-nil entries)); given = h.given; share = h.share }

    pub puts_many : at ≤ span.to → length after.put ≤ call_count (directives_in all span)
    puts_many within =
        let few = fewer_calls all at span.to within in
        let m = h.many in
        let n = h.number_is in omega (arith, calls_of_span)

    module _ (within : at < span.to) where
      pub puts_module : (name bytes : List ℕ) (entry : Entry) (entries' : List Entry) → slice_get all at ≡ Some (Module name bytes) → entries' ≡ entries ++ entry ∷ []
          → PutsLeft all span (at + 1) entries' number before after
      puts_module name bytes entry entries' got is = subst (λ (es : List Entry). PutsLeft all span (at + 1) es number before after) (sym is) (record {
        number_is = (let n = h.number_is in let c = calls_next all at (Module name bytes) got in omega (arith, call_count-module name bytes []));
        putter = h.putter;
        many = h.many;
        given = h.given;
        share = h.share;
        completes = λ more.
            let same : (entries ++ entry ∷ []) ++ more ≡ entries ++ entry ∷ more = append_assoc entries (entry ∷ []) more in
            let rest = part_got all at span.to (Module name bytes) within got in
            let k : after.put ++ pairs_from (entries ++ entry ∷ more) (number + 1) (Module name bytes ∷ drop (at + 1) (take span.to all)) ≡ pairs_from (entries ++ entry ∷ more) (span.calls + 1) (directives_in all span) =
            ap (λ (ds : List Directive). after.put ++ pairs_from (entries ++ entry ∷ more) (number + 1) ds) (sym rest) ∙ h.completes (entry ∷ more) in
            subst (λ (es : List Entry). after.put ++ pairs_from es (number + 1) (drop (at + 1) (take span.to all)) ≡ pairs_from es (span.calls + 1) (directives_in all span)) (sym same) k;
      })

      pub puts_retire : (place : ℕ) (name : List ℕ) → slice_get all at ≡ Some (Retire place name) → PutsLeft all span (at + 1) entries number before after
      puts_retire place name got = record {
        number_is = (let n = h.number_is in let c = calls_next all at (Retire place name) got in omega (arith, call_count-retire place name []));
        putter = h.putter;
        many = h.many;
        given = h.given;
        share = h.share;
        completes = λ more.
            let rest = part_got all at span.to (Retire place name) within got in
            ap (λ (ds : List Directive). after.put ++ pairs_from (entries ++ more) (number + 1) ds) (sym rest) ∙ h.completes more;
      }

      module _ (tenant place : ℕ) (retired : Bool) (invocation : Invocation) (got : slice_get all at ≡ Some (Call tenant place retired invocation)) where
        next_count : call_count (take (at + 1) all) ≡ call_count (take at all) + 1
        next_count = let c = calls_next all at (Call tenant place retired invocation) got in omega (arith, call_count-call tenant place retired invocation [])

        pub room_for_call : number < span.calls + call_count (directives_in all span)
        room_for_call = let few = fewer_calls all (at + 1) span.to (omega arith) in let n = h.number_is in omega (arith, next_count, calls_of_span)

        pub puts_call : (after' : Puts) (m : Option Named) → place < length entries → m ≡ module_at entries place → after' ≡ with_put after ((number + 1, m) ∷ [])
            → PutsLeft all span (at + 1) entries (number + 1) before after'
        puts_call after' m placed module_is stored =
            let put : after' ≡ with_put after ((number + 1, module_at entries place) ∷ []) = stored ∙ ap (λ (x : Option Named). with_put after ((number + 1, x) ∷ [])) module_is in
            let put' : after'.put ≡ after.put ++ (number + 1, module_at entries place) ∷ [] = ap (λ (x : Puts). x.put) put in record {
              number_is = (let n = h.number_is in omega (arith, next_count));
              putter = ap (λ (x : Puts). x.puts) put ∙ h.putter;
              many = (let m = h.many in let l = length-append after.put ((number + 1, module_at entries place) ∷ []) in let e : length after'.put ≡ length (after.put ++ (number + 1, module_at entries place) ∷ []) = ap length put' in omega arith);
              given = ap (λ (x : Puts). x.given) put ∙ h.given;
              share = ap (λ (x : Puts). x.share) put ∙ h.share;
              completes = λ others.
                  let same : module_at (entries ++ others) place ≡ module_at entries place = module_at_left entries others place placed in
                  let rest = part_got all at span.to (Call tenant place retired invocation) within got in
                  let left : List Directive = drop (at + 1) (take span.to all) in
                  ap (λ (ps : List Pair). ps ++ pairs_from (entries ++ others) (number + 1 + 1) left) put'
                  ∙ (append_assoc after.put ((number + 1, module_at entries place) ∷ []) (pairs_from (entries ++ others) (number + 1 + 1) left)
                  ∙ (ap (λ (m : Option Named). after.put ++ (number + 1, m) ∷ pairs_from (entries ++ others) (number + 1 + 1) left) (sym same)
                  ∙ (ap (λ (ds : List Directive). after.put ++ pairs_from (entries ++ others) (number + 1) ds) (sym rest) ∙ h.completes others)));
            }

-- ---- the ends

pub put_none : (a : Puts) → a ≡ with_put a []
put_none a = ap (λ (pairs : List Pair). record a { put = pairs }) (sym (append-nil a.put))

pub many_put : (a b : Puts) (n : ℕ) → b ≡ with_put a (replicate n (0, None)) → length b.put ≡ length a.put + n
many_put a b n e =
    let zero_pair : Pair = (0, None) in
    let put : length b.put ≡ length (a.put ++ replicate n zero_pair) = ap (λ (x : Puts). length x.put) e in
    let both = length-append a.put (replicate n zero_pair) in
    let ends = length-replicate {A = Pair} n zero_pair in omega arith

pub put_then : (a b c : Puts) (n : ℕ) → b ≡ with_put a (replicate n (0, None)) → c ≡ with_put b ((0, None) ∷ []) → c ≡ with_put a (replicate (n + 1) (0, None))
put_then a b c n e f =
    let zero_pair : Pair = (0, None) in
    let longer : (a.put ++ replicate n zero_pair) ++ zero_pair ∷ [] ≡ a.put ++ replicate (n + 1) zero_pair =
    append_assoc a.put (replicate n zero_pair) (zero_pair ∷ []) ∙ ap (λ (ps : List Pair). a.put ++ ps) (replicate_more n zero_pair) in
    f ∙ (ap (λ (x : Puts). with_put x (zero_pair ∷ [])) e ∙ ap (λ (ps : List Pair). record a { put = ps }) longer)

-- what was put, and then a 0 for each worker
pub put_and_ends : (entries : List Entry) (first : ℕ) (ds : List Directive) (workers : ℕ) (a b c : Puts) → HasPut (pairs_from entries first ds) a b → c ≡ with_put b (replicate workers (0, None))
    → HasPut (pairs_put entries first ds workers) a c
put_and_ends entries first ds workers a b c h is = record {
  put = ap (λ (x : Puts). x.put) is ∙ ap (λ (ps : List Pair). ps ++ replicate workers (0, None)) h.put;
  given = ap (λ (x : Puts). x.given) is ∙ h.given;
  share = ap (λ (x : Puts). x.share) is ∙ h.share;
}

-- ---- what is known of the pairs that are put

-- it is a call's, with the call's module, whose entry is there, or a 0
pub record IsPairAt (entries : List Entry) (all : List Directive) (at : ℕ) (m : Option Named) : Type 0 where
  pub tenant : ℕ
  pub place : ℕ
  pub retired : Bool
  pub invocation : Invocation
  pub call : call_at all at ≡ Some (Call tenant place retired invocation)
  pub there : place < length entries
  pub module_is : m ≡ module_at entries place

abbrev pub IsPair : List Entry → List Directive → Pair → Type 0
IsPair entries all pair = 0 < pair.0 → IsPairAt entries all (pair.0 - 1) pair.1

abbrev times : ℕ → List Pair → ℕ
times k pairs = count_by (λ (pair : Pair). pair.0 == k) pairs

times-here : (n k : ℕ) → n ≡ k → ◌≡◌ {A = ℕ} (cond (n == k) 1 0) 1
times-here n k is = let b : (n == k) ≡ true = grind (arith, nat_tests) in rw b refl

times-else : (n k : ℕ) → n ≢ k → ◌≡◌ {A = ℕ} (cond (n == k) 1 0) 0
times-else n k isnt = let b : (n == k) ≡ false = grind (arith, nat_tests) in rw b refl

module _ (entries : List Entry) where
  -- a number is that of at most one of the calls, and of none before the first
  times_from : (n k : ℕ) (ds : List Directive) → (times k (pairs_from entries n ds) ≤ 1) × (k < n → times k (pairs_from entries n ds) ≡ 0)
  times_from n k [] = (omega arith, λ _. refl)
  times_from n k (Module name bytes ∷ ds) = times_from n k ds
  times_from n k (Retire place name ∷ ds) = times_from n k ds
  times_from n k (Call tenant place retired invocation ∷ ds) =
      let (most, none) = times_from (n + 1) k ds in
      let all : times k ((n, module_at entries place) ∷ pairs_from entries (n + 1) ds) ≡ cond (n == k) 1 0 + times k (pairs_from entries (n + 1) ds) =
      sum_by-cons (λ (pair : Pair). cond (pair.0 == k) 1 0) (n, module_at entries place) (pairs_from entries (n + 1) ds) in
      ⊎_elim
      (λ (is : n ≡ k).
      let one = times-here n k is in
      let rest = none (omega arith) in (omega arith, λ lt. absurd (omega arith)))
      (λ (isnt : n ≢ k). let nought = times-else n k isnt in (omega arith, λ lt. let rest = none (omega arith) in omega arith))
      (cases_eq n k)

  times_zeros : (k workers : ℕ) → 0 < k → times k (replicate workers (0, None)) ≡ 0
  times_zeros k zero counted = refl
  times_zeros k (suc workers) counted =
      let all : times k (replicate (suc workers) (0, None)) ≡ cond (0 == k) 1 0 + times k (replicate workers (0, None)) =
      sum_by-cons (λ (pair : Pair). cond (pair.0 == k) 1 0) (0, None) (replicate workers (0, None)) in
      let nought = times-else 0 k (λ is. omega arith) in
      let rest = times_zeros k workers counted in omega arith

  module _ (first : ℕ) (ds : List Directive) (workers : ℕ) where
    both_times : (k : ℕ) → 0 < k → times k (pairs_put entries first ds workers) ≡ times k (pairs_from entries first ds)
    both_times k counted =
        let both : times k (pairs_put entries first ds workers) ≡ times k (pairs_from entries first ds) + times k (replicate workers (0, None)) =
        sum_by-append (λ (pair : Pair). cond (pair.0 == k) 1 0) (pairs_from entries first ds) (replicate workers (0, None)) in
        let zeros = times_zeros k workers counted in omega arith

    pub put_once : (k : ℕ) → 0 < k → times k (pairs_put entries first ds workers) ≤ 1
    put_once k counted = let (most, none) = times_from first k ds in omega (arith, both_times k counted)

    pub put_before : (k : ℕ) → 0 < k → k < first → times k (pairs_put entries first ds workers) ≡ 0
    put_before k counted lt = let (most, none) = times_from first k ds in let n = none lt in omega (arith, both_times k counted)

  below_from : (n : ℕ) (ds : List Directive) → All (λ (pair : Pair). pair.0 < n + call_count ds) (pairs_from entries n ds)
  below_from n [] = All-nil (λ (pair : Pair). pair.0 < n + call_count [])
  below_from n (Module name bytes ∷ ds) =
      let same : n + call_count ds ≡ n + call_count (Module name bytes ∷ ds) = ap (λ c. n + c) (sym (call_count-module name bytes ds)) in
      subst (λ (most : ℕ). All (λ (pair : Pair). pair.0 < most) (pairs_from entries n ds)) same (below_from n ds)
  below_from n (Retire place name ∷ ds) =
      let same : n + call_count ds ≡ n + call_count (Retire place name ∷ ds) = ap (λ c. n + c) (sym (call_count-retire place name ds)) in
      subst (λ (most : ℕ). All (λ (pair : Pair). pair.0 < most) (pairs_from entries n ds)) same (below_from n ds)
  below_from n (Call tenant place retired invocation ∷ ds) =
      let same : n + 1 + call_count ds ≡ n + call_count (Call tenant place retired invocation ∷ ds) = omega (arith, call_count-call tenant place retired invocation ds) in
      All-cons (λ (pair : Pair). pair.0 < n + call_count (Call tenant place retired invocation ∷ ds)) (n, module_at entries place) (pairs_from entries (n + 1) ds)
      (omega (arith, call_count-call tenant place retired invocation ds))
      (subst (λ (most : ℕ). All (λ (pair : Pair). pair.0 < most) (pairs_from entries (n + 1) ds)) same (below_from (n + 1) ds))

  -- where there is no call no pair is put
  pub put_no_calls : (n : ℕ) (ds : List Directive) → call_count ds ≡ 0 → pairs_from entries n ds ≡ []
  put_no_calls n [] none = refl
  put_no_calls n (Module name bytes ∷ ds) none = put_no_calls n ds (let same = call_count-module name bytes ds in omega arith)
  put_no_calls n (Retire place name ∷ ds) none = put_no_calls n ds (let same = call_count-retire place name ds in omega arith)
  put_no_calls n (Call tenant place retired invocation ∷ ds) none = absurd (let one = call_count-call tenant place retired invocation ds in omega arith)

  counted_from : (n : ℕ) (ds : List Directive) → 0 < n → All (λ (pair : Pair). 0 < pair.0) (pairs_from entries n ds)
  counted_from n [] some = All-nil (λ (pair : Pair). 0 < pair.0)
  counted_from n (Module name bytes ∷ ds) some = counted_from n ds some
  counted_from n (Retire place name ∷ ds) some = counted_from n ds some
  counted_from n (Call tenant place retired invocation ∷ ds) some =
      All-cons (λ (pair : Pair). 0 < pair.0) (n, module_at entries place) (pairs_from entries (n + 1) ds) some (counted_from (n + 1) ds (omega arith))

  pub put_ends : (first : ℕ) (ds : List Directive) (workers : ℕ) → 0 < first → EndsAll (pairs_put entries first ds workers) workers
  put_ends first ds workers some = record { pairs = pairs_from entries first ds; put_is = refl; counted = counted_from first ds some }

  pub put_below : (first : ℕ) (ds : List Directive) (workers : ℕ) → 0 < first → All (λ (pair : Pair). pair.0 < first + call_count ds) (pairs_put entries first ds workers)
  put_below first ds workers some =
      let P : Pair → Type 0 = λ pair. pair.0 < first + call_count ds in
      All-append P (pairs_from entries first ds) (replicate workers (0, None)) (below_from first ds) (All-replicate P workers (0, None) (omega arith))

  -- the calls of the file that come after so many others are these
  pairs_at : (all : List Directive) (n : ℕ) (ds : List Directive) → 0 < n → ((at : ℕ) (d : Directive) → call_at ds at ≡ Some d → call_at all (n - 1 + at) ≡ Some d)
      → ((at tenant place : ℕ) (retired : Bool) (invocation : Invocation) → call_at ds at ≡ Some (Call tenant place retired invocation) → place < length entries)
      → All (IsPair entries all) (pairs_from entries n ds)
  pairs_at all n [] counted here placed = All-nil (IsPair entries all)
  pairs_at all n (Module name bytes ∷ ds) counted here placed = pairs_at all n ds counted here placed
  pairs_at all n (Retire place name ∷ ds) counted here placed = pairs_at all n ds counted here placed
  pairs_at all n (Call tenant place retired invocation ∷ ds) counted here placed =
      let first : call_at all (n - 1 + 0) ≡ Some (Call tenant place retired invocation) = here 0 (Call tenant place retired invocation) refl in
      let nought : n - 1 + 0 ≡ n - 1 = omega arith in
      All-cons (IsPair entries all) (n, module_at entries place) (pairs_from entries (n + 1) ds)
      (λ _. record { tenant = tenant; place = place; retired = retired; invocation = invocation; call = ap (call_at all) (sym nought) ∙ first; there = placed 0 tenant place retired invocation refl; module_is = refl })
      (pairs_at all (n + 1) ds (omega arith) (λ at d got. let shift : n + 1 - 1 + at ≡ n - 1 + suc at = omega arith in ap (call_at all) shift ∙ here (suc at) d got)
      (λ at t p r i got. placed (suc at) t p r i got))

  pub put_pairs : (all : List Directive) (span : Span) (workers : ℕ) → IsSpan all span
      → ((at tenant place : ℕ) (retired : Bool) (invocation : Invocation) → call_at (directives_in all span) at ≡ Some (Call tenant place retired invocation) → place < length entries)
      → All (IsPair entries all) (pairs_put entries (span.calls + 1) (directives_in all span) workers)
  put_pairs all span workers is placed =
      All-append (IsPair entries all) (pairs_from entries (span.calls + 1) (directives_in all span)) (replicate workers (0, None))
      (pairs_at all (span.calls + 1) (directives_in all span) (omega arith)
      (λ at d got. let shift : span.calls + 1 - 1 + at ≡ call_count (take span.from all) + at = let c = is.calls_are in omega arith in ap (call_at all) shift ∙ call_of_part all span.from span.to at d is.order got)
      placed)
      (All-replicate (IsPair entries all) workers (0, None) (λ lt. absurd (omega arith)))
