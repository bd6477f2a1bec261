-- Bytes that spell a module in profile 1 spell it in profile 2.
use Rattle.std.proofs.Common.{ℕ, inl, inr, List, [], ◌∷◌, ◌++◌, Bool, true, false, map, Option, Some, None, arith}
use Rattle.std.specs.Prelude.{◌==◌, if◌then◌else◌, find}
use Rattle.std.specs.Option.{option_map_or}
use Rattle.wasm_values.specs.declared.profile.Profile.TheVariants.{One, Two}
use Rattle.wasm_types.specs.declared.instr.Instr.{Instr}
use Rattle.wasm_types.specs.Tree.{Code, End, Plain, Block, Loop, If, Call, CallIndirect, ModuleTree}
use Rattle.wasm_spec.specs.Numbers.{TakesEach}
use Rattle.wasm_spec.specs.InstrGrammar.{Shape, NotPlain, Closer, ByEnd, ByElse, TakesShape, TakesInstr, TakesCode, first_opcodes, numeric, added, shape}
use Rattle.wasm_spec.specs.Grammar.{Section, IsOrderedAbove, TakesGlobal, TakesElement, TakesSizedBody, TakesData, SpellsVec, Spells, body_of, place, section}

abbrev Row : Type 0
Row = ℕ × Shape

-- the shape of the row of an opcode
abbrev row_shape : Option Row → Shape
row_shape o = option_map_or (λ r. r.1) o NotPlain

-- a row that is found first is found among more
either_row : (b : Bool) (row : Row) (o p : Option Row) (i : Instr) (bytes rest : List ℕ) → (TakesShape (row_shape o) i bytes rest → TakesShape (row_shape p) i bytes rest)
    → TakesShape (row_shape (if b then Some row else o)) i bytes rest → TakesShape (row_shape (if b then Some row else p)) i bytes rest
either_row true row o p i bytes rest more t = t
either_row false row o p i bytes rest more t = more t

among_more : (rows others : List Row) (opcode : ℕ) (i : Instr) (bytes rest : List ℕ) → TakesShape (row_shape (find (λ r. r.0 == opcode) (rows ++ []))) i bytes rest
    → TakesShape (row_shape (find (λ r. r.0 == opcode) (rows ++ others))) i bytes rest
among_more [] others opcode i bytes rest t = absurd t
among_more (row ∷ rows) others opcode i bytes rest t =
    either_row (row.0 == opcode) row (find (λ r. r.0 == opcode) (rows ++ [])) (find (λ r. r.0 == opcode) (rows ++ others)) i bytes rest (among_more rows others opcode i bytes rest) t

shape_in_both : (opcode : ℕ) (i : Instr) (bytes rest : List ℕ) → TakesShape (shape One opcode) i bytes rest → TakesShape (shape Two opcode) i bytes rest
unfolding shape
shape_in_both opcode i bytes rest t = among_more (first_opcodes ++ numeric) (added Two) opcode i bytes rest t

instr_in_both : (i : Instr) (bytes rest : List ℕ) → TakesInstr One i bytes rest → TakesInstr Two i bytes rest
instr_in_both i bytes rest t = record { opcode = t.opcode; after = t.after; leads = t.leads; follows = shape_in_both t.opcode i t.after rest t.follows }

code_in_both : (k : Closer) (c : Code) (bytes rest : List ℕ) → TakesCode One k c bytes rest → TakesCode Two k c bytes rest
code_in_both k End bytes rest h = h
code_in_both k (Plain i more) bytes rest (mid, t, h) = (mid, instr_in_both i bytes mid t, code_in_both k more mid rest h)
code_in_both k (Block t body more) bytes rest (after, e, inner, of_type, mid, h, later) =
    (after, e, inner, of_type, mid, code_in_both ByEnd body inner mid h, code_in_both k more mid rest later)
code_in_both k (Loop t body more) bytes rest (after, e, inner, of_type, mid, h, later) =
    (after, e, inner, of_type, mid, code_in_both ByEnd body inner mid h, code_in_both k more mid rest later)
code_in_both k (If t first second more) bytes rest (after, e, inner, of_type, mid, inl (h, none), later) =
    (after, e, inner, of_type, mid, inl (code_in_both ByEnd first inner mid h, none), code_in_both k more mid rest later)
code_in_both k (If t first second more) bytes rest (after, e, inner, of_type, mid, inr (middle, h, g), later) =
    (after, e, inner, of_type, mid, inr (middle, code_in_both ByElse first inner middle h, code_in_both ByEnd second middle mid g), code_in_both k more mid rest later)
code_in_both k (Call x more) bytes rest (after, e, mid, spelled, later) = (after, e, mid, spelled, code_in_both k more mid rest later)
code_in_both k (CallIndirect x more) bytes rest (after, e, mid, spelled, later) = (after, e, mid, spelled, code_in_both k more mid rest later)

-- ---- items and vectors

-- what begins with an item of the first kind begins with it as one of the second
abbrev Also : {A : Type 0} → (A → List ℕ → List ℕ → Type 0) → (A → List ℕ → List ℕ → Type 0) → Type 0
Also {A} Takes Others = (x : A) (bytes rest : List ℕ) → Takes x bytes rest → Others x bytes rest

each_also : {A : Type 0} (Takes Others : A → List ℕ → List ℕ → Type 0) → Also Takes Others → (xs : List A) (bytes rest : List ℕ) → TakesEach Takes xs bytes rest → TakesEach Others xs bytes rest
each_also Takes Others also [] bytes rest h = h
each_also Takes Others also (x ∷ xs) bytes rest (mid, t, h) = (mid, also x bytes mid t, each_also Takes Others also xs mid rest h)

section_also : {A : Type 0} (Takes Others : A → List ℕ → List ℕ → Type 0) → Also Takes Others → (xs : List A) (o : Option Section) → SpellsVec Takes xs o → SpellsVec Others xs o
section_also Takes Others also xs None h = h
section_also Takes Others also xs (Some s) h = record { mid = h.mid; count = h.count; items = each_also Takes Others also xs h.mid [] h.items }

global_in_both : Also (TakesGlobal One) (TakesGlobal Two)
global_in_both g bytes rest t = record { mid = t.mid; global_type = t.global_type; init = code_in_both ByEnd g.init t.mid rest t.init }

element_in_both : Also (TakesElement One) (TakesElement Two)
element_in_both e bytes rest t = record {
  after_table = t.after_table;
  after_offset = t.after_offset;
  table = t.table;
  offset = code_in_both ByEnd e.offset t.after_table t.after_offset t.offset;
  functions = t.functions;
}

body_in_both : Also (TakesSizedBody One) (TakesSizedBody Two)
body_in_both b bytes rest t = record {
  contents = t.contents;
  sized = t.sized;
  body = record {
    runs = t.body.runs;
    mid = t.body.mid;
    spelled = t.body.spelled;
    locals = t.body.locals;
    few = t.body.few;
    code = code_in_both ByEnd b.code t.body.mid [] t.body.code;
  };
}

data_in_both : Also (TakesData One) (TakesData Two)
data_in_both d bytes rest t = record {
  after_memory = t.after_memory;
  after_offset = t.after_offset;
  memory = t.memory;
  offset = code_in_both ByEnd d.offset t.after_memory t.after_offset t.offset;
  contents = t.contents;
}

-- ---- modules

ordered_in_both : (low : ℕ) (sections : List Section) → IsOrderedAbove One low sections → IsOrderedAbove Two low sections
ordered_in_both low [] h = tt
ordered_in_both low (s ∷ sections) (inl (custom, named, h)) = inl (custom, named, ordered_in_both low sections h)
ordered_in_both low (s ∷ sections) (inr (above, known, h)) = inr (above, omega (arith, known), ordered_in_both (place s.id) sections h)

pub spells_in_both : (bytes : List ℕ) (m : ModuleTree) → Spells One bytes m → Spells Two bytes m
spells_in_both bytes m h = let f = h.fields in record {
  after = h.after;
  sections = h.sections;
  header = h.header;
  whole = h.whole;
  ordered = ordered_in_both 0 h.sections h.ordered;
  fields = record {
    types = f.types;
    imports = f.imports;
    function_types = f.function_types;
    tables = f.tables;
    memories = f.memories;
    globals = section_also (TakesGlobal One) (TakesGlobal Two) global_in_both m.globals (section 6 h.sections) f.globals;
    exports = f.exports;
    start = f.start;
    element_segments = section_also (TakesElement One) (TakesElement Two) element_in_both m.element_segments (section 9 h.sections) f.element_segments;
    bodies = section_also (TakesSizedBody One) (TakesSizedBody Two) body_in_both (map body_of m.functions) (section 10 h.sections) f.bodies;
    data_segments = section_also (TakesData One) (TakesData Two) data_in_both m.data_segments (section 11 h.sections) f.data_segments;
    data_count = f.data_count;
  };
}
