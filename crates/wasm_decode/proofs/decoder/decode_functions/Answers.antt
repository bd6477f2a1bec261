use Rattle.std.proofs.Common.{ℕ, ◌<◌, List, length, map, ap, arith}
use Rattle.std.proofs.lemmas.List.{map-id, length-map}
use Rattle.wasm_spec.specs.Numbers.{TakesUnsigned}
use Rattle.wasm_types.specs.Tree.{FunctionTree}
use Rattle.wasm_spec.specs.Grammar.{Body, TakesSizedBody, body_of, Section, section, SpellsVec}
use Rattle.instr_decode.specs.declared.fault.DecodeFault.TheVariants.{NoMemory}
use Rattle.instr_decode.proofs.Decoding.{exits}
use Rattle.wasm_decode.specs.Sections.{section_of}
use Rattle.wasm_decode.specs.Bodies.{body_tree}
use Rattle.wasm_decode.specs.Fields.{SpellsFunctions}
use Rattle.wasm_decode.proofs.Fields.{exits-part, exits-wanted, same-length, spelled-some, wants-some}
use Rattle.wasm_decode.proofs.decoder.decode_functions.Goals as goal

pub returns-in_err-type_indices-clause-read : goal.returns-in_err-type_indices-clause-read
returns-in_err-type_indices-clause-read c =
    let ss : List Section = map section_of c.args.sections.now in
    exits-part (λ xs. SpellsVec (TakesUnsigned 32) xs (section 3 ss)) (SpellsFunctions c.args.profile ss) c.from_residual.result _ c.in_err-type_indices.field-0.0 c.from_residual.ensures.1 c.in_err-type_indices.ensures.read (λ fs h. (map (λ (f : FunctionTree). f.type_index) fs, h.types))

pub returns-in_err-bodies-clause-read : goal.returns-in_err-bodies-clause-read
returns-in_err-bodies-clause-read c =
    let ss : List Section = map section_of c.args.sections.now in
    exits-part (λ xs. SpellsVec (TakesSizedBody c.args.profile) xs (section 10 ss)) (SpellsFunctions c.args.profile ss) c.from_residual-in_err-bodies.result _ c.in_err-bodies.field-0.0 c.from_residual-in_err-bodies.ensures.1 c.in_err-bodies.ensures.read (λ fs h. (map body_of fs, h.bodies))

pub returns-then-len-clause-read : goal.returns-then-len-clause-read
returns-then-len-clause-read c = λ fs h.
    let ss : List Section = map section_of c.args.sections.now in
    let indices : List ℕ = c.in_ok-type_indices.type_indices in
    let trees : List Body = map (λ s. body_tree s.body) c.in_ok-bodies.bodies in
    let n = same-length c.args.profile ss fs indices trees h (simp map-id at c.in_ok-type_indices.ensures.read) c.in_ok-bodies.ensures.read in
    omega (arith, n, length-map c.in_ok-bodies.bodies (λ s. body_tree s.body), c.len.ensures, c.len-2.ensures, c.if-len.true)

pub returns-in_err-type_indices-clause-wanted : goal.returns-in_err-type_indices-clause-wanted
returns-in_err-type_indices-clause-wanted c e = wants-some _ _ 3 c.args.sections.now (exits-wanted c.from_residual.result c.in_err-type_indices.field-0.0 _ c.from_residual.ensures.1 c.in_err-type_indices.ensures.wanted e)

pub returns-in_err-bodies-clause-wanted : goal.returns-in_err-bodies-clause-wanted
returns-in_err-bodies-clause-wanted c e = wants-some _ _ 10 c.args.sections.now (exits-wanted c.from_residual-in_err-bodies.result c.in_err-bodies.field-0.0 _ c.from_residual-in_err-bodies.ensures.1 c.in_err-bodies.ensures.wanted e)

pub returns-in_err-functions-clause-read : goal.returns-in_err-functions-clause-read
returns-in_err-functions-clause-read c = exits c.from_residual-in_err-functions.result _ _ NoMemory c.from_residual-in_err-functions.ensures.1 tt

pub returns-in_err-functions-clause-wanted : goal.returns-in_err-functions-clause-wanted
returns-in_err-functions-clause-wanted c e =
    let some : 0 < length (map (λ s. body_tree s.body) c.in_ok-bodies.bodies) = omega (arith, length-map c.in_ok-bodies.bodies (λ s. body_tree s.body), ap length c.into_vec.ensures, c.in_err-functions.ensures.wanted) in
    spelled-some _ 10 c.args.sections.now _ c.in_ok-bodies.ensures.read some

pub returns-clause-read : goal.returns-clause-read
returns-clause-read c =
    let joined = c.in_ok-functions.ensures in record {
      types = rw (c.new.ensures, joined.types, c.as_slice.ensures) (simp map-id at c.in_ok-type_indices.ensures.read);
      bodies = rw (c.new.ensures, joined.bodies, c.into_vec.ensures) c.in_ok-bodies.ensures.read;
    }
