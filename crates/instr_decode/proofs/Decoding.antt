-- Items that stand in a row or in a vector, and where there are none.
use Rattle.std.proofs.Common.{◌≡◌, ℕ, ◌<◌, List, [], ◌∷◌, ◌++◌, length, refl, sym, ◌∙◌, subst, arith}
use Rattle.std.specs.Prelude.{Result, MatchResult, IsErrAnd}
use Rattle.std.proofs.lemmas.Result.{err_from_is_err_and}
use Rattle.wasm_spec.specs.Numbers.{TakesUnsigned, TakesEach, TakesVec, TakesBytes, IsUnambiguous}
use Rattle.wasm_spec.proofs.UnambiguousNumbers.{unsigned-unique}
use Rattle.leb_read.specs.Reading.{CursorView, rest, IsRead, TakesSlice}
use Rattle.instr_decode.specs.Decoding.{IsNone, BeginsWithNone}
use Rattle.instr_decode.specs.declared.fault.DecodeFault.{DecodeFault}
use Rattle.instr_decode.specs.declared.fault.DecodeFault.TheVariants.{Malformed, NoMemory}

-- where there is none of the one, there is none of the other
pub none-through : {A B : Type 0} (P : A → Type 0) (Q : B → Type 0) (fault : DecodeFault)
    → IsNone P fault → ((b : B) → Q b → (a : A) × P a) → IsNone Q fault
none-through P Q Malformed none through = λ b q. let m = through b q in none m.0 m.1
none-through P Q NoMemory none through = tt

pub begins-through : {A B : Type 0} (P : A → List ℕ → List ℕ → Type 0) (Q : B → List ℕ → List ℕ → Type 0) (here from : List ℕ) (fault : DecodeFault)
    → BeginsWithNone P here fault → ((b : B) (after : List ℕ) → Q b from after → (a : A) × (mid : List ℕ) × P a here mid) → BeginsWithNone Q from fault
begins-through P Q here from Malformed none through = λ b after q. let m = through b after q in none m.0 m.1 m.2
begins-through P Q here from NoMemory none through = tt

-- an item that another one is made of
pub read-as : {A B : Type 0} (P : A → List ℕ → List ℕ → Type 0) (Q : B → List ℕ → List ℕ → Type 0) (old new : CursorView) (a : A) (b : B)
    → IsRead P old new a → (P a (rest old) (rest new) → Q b (rest old) (rest new)) → IsRead Q old new b
read-as P Q old new a b r f = record { whole = r.whole; forth = r.forth; within = r.within; spelled = f r.spelled }

-- and one after another
pub read-both : {A B C : Type 0} (P : A → List ℕ → List ℕ → Type 0) (Q : B → List ℕ → List ℕ → Type 0) (R : C → List ℕ → List ℕ → Type 0) (old mid new : CursorView) (a : A) (b : B) (x : C)
    → IsRead P old mid a → IsRead Q mid new b → (P a (rest old) (rest mid) → Q b (rest mid) (rest new) → R x (rest old) (rest new)) → IsRead R old new x
read-both P Q R old mid new a b x r s f = record { whole = s.whole ∙ r.whole; forth = omega arith; within = s.within; spelled = f r.spelled s.spelled }

-- one more
pub each-more : {A : Type 0} (Takes : A → List ℕ → List ℕ → Type 0) (xs : List A) (x : A) (bytes mid rest : List ℕ)
    → TakesEach Takes xs bytes mid → Takes x mid rest → TakesEach Takes (xs ++ x ∷ []) bytes rest
each-more Takes [] x bytes mid rest a b = (rest, subst (λ (l : List ℕ). Takes x l rest) a b, refl)
each-more Takes (y ∷ ys) x bytes mid rest a b = (a.0, a.1, each-more Takes ys x a.0 mid rest a.2 b)

-- where some of the items end, the next one stands
pub each-next : {A : Type 0} (Takes : A → List ℕ → List ℕ → Type 0) → IsUnambiguous Takes
    → (done xs : List A) (bytes here after : List ℕ) → TakesEach Takes done bytes here → TakesEach Takes xs bytes after → length done < length xs
    → (x : A) × (mid : List ℕ) × Takes x here mid
each-next Takes u done [] bytes here after a b lt = absurd (omega (arith, lt))
each-next Takes u [] (x ∷ xs) bytes here after a b lt = (x, b.0, subst (λ (l : List ℕ). Takes x l b.0) (sym a) b.1)
each-next Takes u (d ∷ done) (x ∷ xs) bytes here after a b lt =
    let i = u d x bytes a.0 b.0 a.1 b.1 in
    each-next Takes u done xs a.0 here after a.2 (subst (λ (l : List ℕ). TakesEach Takes xs l after) (sym i.1) b.2) (omega (arith, lt))

-- a vector breaks off where an item does
pub vec-none : {A : Type 0} (Takes : A → List ℕ → List ℕ → Type 0) → IsUnambiguous Takes
    → (fault : DecodeFault) (done : List A) (bytes mid here : List ℕ) (n : ℕ)
    → TakesUnsigned 32 n bytes mid → TakesEach Takes done mid here → length done < n → BeginsWithNone Takes here fault → BeginsWithNone (TakesVec Takes) bytes fault
vec-none Takes u fault done bytes mid here n count each lt none =
    begins-through Takes (TakesVec Takes) here bytes fault none (λ xs after v.
    let i = unsigned-unique 32 (length xs) n bytes v.mid mid v.count count in
    each-next Takes u done xs mid here after each (subst (λ (l : List ℕ). TakesEach Takes xs l after) i.1 v.items) (omega (arith, lt, i.0)))

-- the bytes of a count
pub bytes-cut : (ys bytes after mid : List ℕ) (n : ℕ) → TakesBytes ys bytes after → TakesUnsigned 32 n bytes mid → TakesSlice n ys mid after
bytes-cut ys bytes after mid n t count =
    let u = unsigned-unique 32 (length ys) n bytes t.mid mid t.count count in
    (u.0, sym u.1 ∙ t.items)

-- what the exit of a `?` answers
pub exits : {T : Type 0} (r : Result T DecodeFault) (Found : T → Type 0) (Refused : DecodeFault → Type 0) (fault : DecodeFault)
    → IsErrAnd r (λ e. e ≡ fault) → Refused fault → MatchResult r Found Refused
exits r Found Refused fault e h = let p = err_from_is_err_and r e in rw (p.1, p.2) h

pub whole-none : {A : Type 0} (Takes : A → List ℕ → List ℕ → Type 0) (bytes : List ℕ) (fault : DecodeFault) → BeginsWithNone Takes bytes fault → IsNone (λ x. Takes x bytes []) fault
whole-none Takes bytes Malformed none = λ x t. none x [] t
whole-none Takes bytes NoMemory none = tt

-- what the exit of a `?` answers behind an item of which another one is made
pub exits-as : {T A B : Type 0} (P : A → List ℕ → List ℕ → Type 0) (Q : B → List ℕ → List ℕ → Type 0) (r : Result T DecodeFault) (Found : T → Type 0) (bytes : List ℕ) (fault : DecodeFault)
    → IsErrAnd r (λ e. e ≡ fault) → BeginsWithNone P bytes fault → ((b : B) (after : List ℕ) → Q b bytes after → (a : A) × P a bytes after) → MatchResult r Found (BeginsWithNone Q bytes)
exits-as P Q r Found bytes fault e none through =
    exits r Found (BeginsWithNone Q bytes) fault e (begins-through P Q bytes bytes fault none (λ b after q. let p = through b after q in (p.0, after, p.1)))
