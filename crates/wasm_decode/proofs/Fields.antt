-- What the sections of a module say of its parts.
use Rattle.std.proofs.Common.{◌≡◌, ◌<◌, ℕ, List, [], ◌∷◌, length, map, ap, subst, arith}
use Rattle.std.specs.Prelude.{Result, MatchResult, IsErrAnd, IsErrOf, Err}
use Rattle.std.proofs.lemmas.List.{length-map}
use Rattle.std.proofs.lemmas.Result.{err_from_is_err_and}
use Rattle.wasm_values.specs.declared.profile.Profile.{Profile}
use Rattle.wasm_types.specs.Tree.{DataTree, FunctionTree, ModuleTree}
use Rattle.wasm_spec.specs.Numbers.{TakesUnsigned}
use Rattle.wasm_spec.specs.Grammar.{Body, TakesData, TakesSizedBody, SpellsCount, body_of, Section, section, SpellsVec, SpellsFields}
use Rattle.wasm_spec.proofs.UnambiguousNumbers.{unsigned-unique}
use Rattle.wasm_spec.proofs.UnambiguousModules.{data-unique, sized_body-unique, spelled_vec-unique}
use Rattle.instr_decode.specs.Decoding.{IsNone}
use Rattle.instr_decode.specs.declared.fault.DecodeFault.{DecodeFault}
use Rattle.instr_decode.specs.declared.fault.DecodeFault.TheVariants.{NoMemory}
use Rattle.instr_decode.proofs.Decoding.{exits, none-through}
use Rattle.wasm_decode.specs.declared.section.Section.{Section as Given}
use Rattle.wasm_decode.specs.Sections.{WantsSection, section_of}
use Rattle.wasm_decode.specs.Fields.{DefinitionsTree, InitializationTree, SpellsFunctions, SpellsDefinitions, SpellsInitialization}

-- the exit of a `?` behind a part that nothing is spelled for
pub exits-part : {T A B : Type 0} (P : A → Type 0) (Q : B → Type 0) (r : Result T DecodeFault) (Found : T → Type 0) (fault : DecodeFault)
    → IsErrAnd r (λ e. e ≡ fault) → IsNone P fault → ((b : B) → Q b → (a : A) × P a) → MatchResult r Found (IsNone Q)
exits-part P Q r Found fault e none through = exits r Found (IsNone Q) fault e (none-through P Q fault none through)

-- as many types as bodies
pub same-length : (profile : Profile) (sections : List Section) (fs : List FunctionTree) (indices : List ℕ) (bodies : List Body) → SpellsFunctions profile sections fs
    → SpellsVec (TakesUnsigned 32) indices (section 3 sections) → SpellsVec (TakesSizedBody profile) bodies (section 10 sections) → length indices ≡ length bodies
same-length profile sections fs indices bodies h a b =
    let i = spelled_vec-unique (TakesUnsigned 32) (unsigned-unique 32) indices (map (λ (f : FunctionTree). f.type_index) fs) (section 3 sections) a h.types in
    let j = spelled_vec-unique (TakesSizedBody profile) (sized_body-unique profile) bodies (map body_of fs) (section 10 sections) b h.bodies in
    omega (arith, ap length i, ap length j, length-map fs (λ (f : FunctionTree). f.type_index), length-map fs body_of)

-- as many data segments as are counted
pub data-counted : (profile : Profile) (sections : List Section) (i : InitializationTree) (datas : List DataTree) → SpellsInitialization profile sections i → SpellsVec (TakesData profile) datas (section 11 sections)
    → SpellsCount (length datas) (section 12 sections)
data-counted profile sections i datas h a =
    let e = spelled_vec-unique (TakesData profile) (data-unique profile) i.data_segments datas (section 11 sections) h.data_segments a in
    subst (λ (l : List DataTree). SpellsCount (length l) (section 12 sections)) e h.data_count

-- the parts of a module that is spelled
pub definitions-of : (profile : Profile) (sections : List Section) (m : ModuleTree) → SpellsFields profile sections m → (d : DefinitionsTree) × SpellsDefinitions profile sections d
definitions-of profile sections m h = (
  record { types = m.types; functions = m.functions; tables = m.tables; memories = m.memories; globals = m.globals },
  record { types = h.types; functions = record { types = h.function_types; bodies = h.bodies }; tables = h.tables; memories = h.memories; globals = h.globals },
)

pub initialization-of : (profile : Profile) (sections : List Section) (m : ModuleTree) → SpellsFields profile sections m → (i : InitializationTree) × SpellsInitialization profile sections i
initialization-of profile sections m h = (
  record { start = m.start; element_segments = m.element_segments; data_segments = m.data_segments },
  record { start = h.start; element_segments = h.element_segments; data_segments = h.data_segments; data_count = h.data_count },
)

-- the exit of a `?` behind a part for which memory may be wanted
pub exits-wanted : {T X : Type 0} (r : Result T DecodeFault) (fault : DecodeFault) (Wants : Type 0) → IsErrAnd r (λ e. e ≡ fault) → (IsErrOf {T = X} (Err fault) NoMemory → Wants) → IsErrOf r NoMemory → Wants
exits-wanted r fault Wants e wants is = let p = err_from_is_err_and r e in wants (cc (p.1, p.2, is))

-- memory is wanted for a section only where there are some, and so is a vector that has items
pub wants-some : {A : Type 0} (Takes : A → List ℕ → List ℕ → Type 0) (Wants : List ℕ → Type 0) (id : ℕ) (sections : List Given) → WantsSection Takes Wants (section id (map section_of sections)) → 0 < length sections
wants-some Takes Wants id [] wants = absurd wants
wants-some Takes Wants id (s ∷ sections) wants = omega arith

pub spelled-some : {A : Type 0} (Takes : A → List ℕ → List ℕ → Type 0) (id : ℕ) (sections : List Given) (xs : List A) → SpellsVec Takes xs (section id (map section_of sections)) → 0 < length xs → 0 < length sections
spelled-some Takes id [] xs spelled some = omega (arith, some, ap length spelled)
spelled-some Takes id (s ∷ sections) xs spelled some = omega arith
