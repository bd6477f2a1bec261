-- The bytes of the worked modules, spelled: the tree of each is what the examples of calls are about.
use Rattle.std.proofs.Common.{ℕ, inl, inr, List, [], ◌∷◌, ◌++◌, map, refl, arith, pos}
use Rattle.std.specs.Prelude.{negsuc}
use Rattle.wasm_values.specs.declared.profile.Profile.TheVariants.{One}
use Rattle.wasm_spec.specs.Numbers.{TakesUnsigned, TakesEach, TakesVec}
use Rattle.wasm_spec.specs.TypeGrammar.{TakesFuncType, TakesTableType, TakesLimits}
use Rattle.wasm_spec.specs.InstrGrammar.{shape}
use Rattle.wasm_types.specs.Tree.{FunctionTree}
use Rattle.wasm_spec.specs.Grammar.{Section, TakesSection, TakesGlobal, TakesExport, TakesElement, TakesSizedBody, TakesData, body_of, Spells}
use Rattle.wasm_examples.proofs.Modules.{add_module, bump_module, poke_module, wrap_module, grown_module, grow_module, div_module, indirect_module, recursive_module, start_module, spin_module, misfit_module, count_module, next_module}

-- ---- add

abbrev add_type : List ℕ
add_type = 0x01 ∷ 0x60 ∷ 0x02 ∷ 0x7F ∷ 0x7F ∷ 0x01 ∷ 0x7F ∷ []

abbrev add_function : List ℕ
add_function = 0x01 ∷ 0x00 ∷ []

abbrev add_export : List ℕ
add_export = 0x01 ∷ 0x03 ∷ 0x61 ∷ 0x64 ∷ 0x64 ∷ 0x00 ∷ 0x00 ∷ []

abbrev add_code : List ℕ
add_code = 0x01 ∷ 0x07 ∷ 0x00 ∷ 0x20 ∷ 0x00 ∷ 0x20 ∷ 0x01 ∷ 0x6A ∷ 0x0B ∷ []

abbrev add_from_code : List ℕ
add_from_code = 0x0A ∷ 0x09 ∷ add_code ++ []

abbrev add_from_export : List ℕ
add_from_export = 0x07 ∷ 0x07 ∷ add_export ++ add_from_code

abbrev add_from_function : List ℕ
add_from_function = 0x03 ∷ 0x02 ∷ add_function ++ add_from_export

abbrev add_from_type : List ℕ
add_from_type = 0x01 ∷ 0x07 ∷ add_type ++ add_from_function

abbrev add_sections : List Section
add_sections = record { id = 1; contents = add_type } ∷ record { id = 3; contents = add_function } ∷ record { id = 7; contents = add_export } ∷ record { id = 10; contents = add_code } ∷ []

add_follows : TakesEach TakesSection add_sections add_from_type []
add_follows = (_, record { after = _; id = refl; sized = record { mid = add_type ++ add_from_function; count = inl (omega arith, omega arith, refl, refl); items = refl } }, (_, record { after = _; id = refl; sized = record { mid = add_function ++ add_from_export; count = inl (omega arith, omega arith, refl, refl); items = refl } }, (_, record { after = _; id = refl; sized = record { mid = add_export ++ add_from_code; count = inl (omega arith, omega arith, refl, refl); items = refl } }, (_, record { after = _; id = refl; sized = record { mid = add_code ++ []; count = inl (omega arith, omega arith, refl, refl); items = refl } }, refl))))

add_type_spelled : TakesVec TakesFuncType add_module.types add_type []
add_type_spelled = record { mid = _; count = inl (omega arith, omega arith, refl, refl); items = (_, record { after = _; mid = _; tag = refl; params = record { mid = _; count = inl (omega arith, omega arith, refl, refl); items = (_, refl, (_, refl, refl)) }; results = record { mid = _; count = inl (omega arith, omega arith, refl, refl); items = (_, refl, refl) } }, refl) }

add_function_spelled : TakesVec (TakesUnsigned 32) (map (λ (f : FunctionTree). f.type_index) add_module.functions) add_function []
add_function_spelled = record { mid = _; count = inl (omega arith, omega arith, refl, refl); items = (_, inl (omega arith, omega arith, refl, refl), refl) }

add_export_spelled : TakesVec TakesExport add_module.exports add_export []
unfolding lib.Utf8.encode
add_export_spelled = record { mid = _; count = inl (omega arith, omega arith, refl, refl); items = (_, record { mid = _; name = record { spelled = record { mid = _; count = inl (omega arith, omega arith, refl, refl); items = refl }; utf8 = (97 ∷ 100 ∷ 100 ∷ [], (refl, refl)) }; desc = (_, refl, inl (omega arith, omega arith, refl, refl)) }, refl) }

add_code_spelled : TakesVec (TakesSizedBody One) (map body_of add_module.functions) add_code []
unfolding shape
add_code_spelled = record { mid = _; count = inl (omega arith, omega arith, refl, refl); items = (_, record { contents = 0x00 ∷ 0x20 ∷ 0x00 ∷ 0x20 ∷ 0x01 ∷ 0x6A ∷ 0x0B ∷ []; sized = record { mid = _; count = inl (omega arith, omega arith, refl, refl); items = refl }; body = record { runs = []; mid = _; spelled = record { mid = _; count = inl (omega arith, omega arith, refl, refl); items = refl }; locals = refl; few = omega arith; code = (_, record { opcode = 0x20; after = _; leads = refl; follows = (0, refl, inl (omega arith, omega arith, refl, refl)) }, (_, record { opcode = 0x20; after = _; leads = refl; follows = (1, refl, inl (omega arith, omega arith, refl, refl)) }, (_, record { opcode = 0x6A; after = _; leads = refl; follows = (refl, refl) }, refl))) } }, refl) }

add_is_spelled : Spells One (0x00 ∷ 0x61 ∷ 0x73 ∷ 0x6D ∷ 0x01 ∷ 0x00 ∷ 0x00 ∷ 0x00 ∷ add_from_type) add_module
add_is_spelled = record {
  after = add_from_type;
  sections = add_sections;
  header = refl;
  whole = add_follows;
  ordered = inr (omega arith, omega arith, inr (omega arith, omega arith, inr (omega arith, omega arith, inr (omega arith, omega arith, tt))));
  fields = record {
    types = add_type_spelled;
    imports = refl;
    function_types = add_function_spelled;
    tables = refl;
    memories = refl;
    globals = refl;
    exports = add_export_spelled;
    start = refl;
    element_segments = refl;
    bodies = add_code_spelled;
    data_segments = refl;
    data_count = tt;
  };
}

-- ---- bump

abbrev bump_type : List ℕ
bump_type = 0x01 ∷ 0x60 ∷ 0x00 ∷ 0x01 ∷ 0x7F ∷ []

abbrev bump_function : List ℕ
bump_function = 0x01 ∷ 0x00 ∷ []

abbrev bump_memory : List ℕ
bump_memory = 0x01 ∷ 0x00 ∷ 0x01 ∷ []

abbrev bump_export : List ℕ
bump_export = 0x01 ∷ 0x04 ∷ 0x62 ∷ 0x75 ∷ 0x6D ∷ 0x70 ∷ 0x00 ∷ 0x00 ∷ []

abbrev bump_code : List ℕ
bump_code = 0x01 ∷ 0x14 ∷ 0x00 ∷ 0x41 ∷ 0x00 ∷ 0x41 ∷ 0x00 ∷ 0x28 ∷ 0x02 ∷ 0x00 ∷ 0x41 ∷ 0x01 ∷ 0x6A ∷ 0x36 ∷ 0x02 ∷ 0x00 ∷ 0x41 ∷ 0x00 ∷ 0x28 ∷ 0x02 ∷ 0x00 ∷ 0x0B ∷ []

abbrev bump_from_code : List ℕ
bump_from_code = 0x0A ∷ 0x16 ∷ bump_code ++ []

abbrev bump_from_export : List ℕ
bump_from_export = 0x07 ∷ 0x08 ∷ bump_export ++ bump_from_code

abbrev bump_from_memory : List ℕ
bump_from_memory = 0x05 ∷ 0x03 ∷ bump_memory ++ bump_from_export

abbrev bump_from_function : List ℕ
bump_from_function = 0x03 ∷ 0x02 ∷ bump_function ++ bump_from_memory

abbrev bump_from_type : List ℕ
bump_from_type = 0x01 ∷ 0x05 ∷ bump_type ++ bump_from_function

abbrev bump_sections : List Section
bump_sections = record { id = 1; contents = bump_type } ∷ record { id = 3; contents = bump_function } ∷ record { id = 5; contents = bump_memory } ∷ record { id = 7; contents = bump_export } ∷ record { id = 10; contents = bump_code } ∷ []

bump_follows : TakesEach TakesSection bump_sections bump_from_type []
bump_follows = (_, record { after = _; id = refl; sized = record { mid = bump_type ++ bump_from_function; count = inl (omega arith, omega arith, refl, refl); items = refl } }, (_, record { after = _; id = refl; sized = record { mid = bump_function ++ bump_from_memory; count = inl (omega arith, omega arith, refl, refl); items = refl } }, (_, record { after = _; id = refl; sized = record { mid = bump_memory ++ bump_from_export; count = inl (omega arith, omega arith, refl, refl); items = refl } }, (_, record { after = _; id = refl; sized = record { mid = bump_export ++ bump_from_code; count = inl (omega arith, omega arith, refl, refl); items = refl } }, (_, record { after = _; id = refl; sized = record { mid = bump_code ++ []; count = inl (omega arith, omega arith, refl, refl); items = refl } }, refl)))))

bump_type_spelled : TakesVec TakesFuncType bump_module.types bump_type []
bump_type_spelled = record { mid = _; count = inl (omega arith, omega arith, refl, refl); items = (_, record { after = _; mid = _; tag = refl; params = record { mid = _; count = inl (omega arith, omega arith, refl, refl); items = refl }; results = record { mid = _; count = inl (omega arith, omega arith, refl, refl); items = (_, refl, refl) } }, refl) }

bump_function_spelled : TakesVec (TakesUnsigned 32) (map (λ (f : FunctionTree). f.type_index) bump_module.functions) bump_function []
bump_function_spelled = record { mid = _; count = inl (omega arith, omega arith, refl, refl); items = (_, inl (omega arith, omega arith, refl, refl), refl) }

bump_memory_spelled : TakesVec TakesLimits bump_module.memories bump_memory []
bump_memory_spelled = record { mid = _; count = inl (omega arith, omega arith, refl, refl); items = (_, (_, refl, inl (omega arith, omega arith, refl, refl)), refl) }

bump_export_spelled : TakesVec TakesExport bump_module.exports bump_export []
unfolding lib.Utf8.encode
bump_export_spelled = record { mid = _; count = inl (omega arith, omega arith, refl, refl); items = (_, record { mid = _; name = record { spelled = record { mid = _; count = inl (omega arith, omega arith, refl, refl); items = refl }; utf8 = (98 ∷ 117 ∷ 109 ∷ 112 ∷ [], (refl, refl)) }; desc = (_, refl, inl (omega arith, omega arith, refl, refl)) }, refl) }

bump_code_spelled : TakesVec (TakesSizedBody One) (map body_of bump_module.functions) bump_code []
unfolding shape
bump_code_spelled = record { mid = _; count = inl (omega arith, omega arith, refl, refl); items = (_, record { contents = 0x00 ∷ 0x41 ∷ 0x00 ∷ 0x41 ∷ 0x00 ∷ 0x28 ∷ 0x02 ∷ 0x00 ∷ 0x41 ∷ 0x01 ∷ 0x6A ∷ 0x36 ∷ 0x02 ∷ 0x00 ∷ 0x41 ∷ 0x00 ∷ 0x28 ∷ 0x02 ∷ 0x00 ∷ 0x0B ∷ []; sized = record { mid = _; count = inl (omega arith, omega arith, refl, refl); items = refl }; body = record { runs = []; mid = _; spelled = record { mid = _; count = inl (omega arith, omega arith, refl, refl); items = refl }; locals = refl; few = omega arith; code = (_, record { opcode = 0x41; after = _; leads = refl; follows = (pos 0, refl, inl (omega arith, omega arith, refl, refl)) }, (_, record { opcode = 0x41; after = _; leads = refl; follows = (pos 0, refl, inl (omega arith, omega arith, refl, refl)) }, (_, record { opcode = 0x28; after = _; leads = refl; follows = (record { align = 2; offset = 0 }, _, refl, inl (omega arith, omega arith, refl, refl), inl (omega arith, omega arith, refl, refl)) }, (_, record { opcode = 0x41; after = _; leads = refl; follows = (pos 1, refl, inl (omega arith, omega arith, refl, refl)) }, (_, record { opcode = 0x6A; after = _; leads = refl; follows = (refl, refl) }, (_, record { opcode = 0x36; after = _; leads = refl; follows = (record { align = 2; offset = 0 }, _, refl, inl (omega arith, omega arith, refl, refl), inl (omega arith, omega arith, refl, refl)) }, (_, record { opcode = 0x41; after = _; leads = refl; follows = (pos 0, refl, inl (omega arith, omega arith, refl, refl)) }, (_, record { opcode = 0x28; after = _; leads = refl; follows = (record { align = 2; offset = 0 }, _, refl, inl (omega arith, omega arith, refl, refl), inl (omega arith, omega arith, refl, refl)) }, refl)))))))) } }, refl) }

bump_is_spelled : Spells One (0x00 ∷ 0x61 ∷ 0x73 ∷ 0x6D ∷ 0x01 ∷ 0x00 ∷ 0x00 ∷ 0x00 ∷ bump_from_type) bump_module
bump_is_spelled = record {
  after = bump_from_type;
  sections = bump_sections;
  header = refl;
  whole = bump_follows;
  ordered = inr (omega arith, omega arith, inr (omega arith, omega arith, inr (omega arith, omega arith, inr (omega arith, omega arith, inr (omega arith, omega arith, tt)))));
  fields = record {
    types = bump_type_spelled;
    imports = refl;
    function_types = bump_function_spelled;
    tables = refl;
    memories = bump_memory_spelled;
    globals = refl;
    exports = bump_export_spelled;
    start = refl;
    element_segments = refl;
    bodies = bump_code_spelled;
    data_segments = refl;
    data_count = tt;
  };
}

-- ---- poke

abbrev poke_type : List ℕ
poke_type = 0x01 ∷ 0x60 ∷ 0x02 ∷ 0x7F ∷ 0x7F ∷ 0x00 ∷ []

abbrev poke_function : List ℕ
poke_function = 0x01 ∷ 0x00 ∷ []

abbrev poke_memory : List ℕ
poke_memory = 0x01 ∷ 0x00 ∷ 0x01 ∷ []

abbrev poke_export : List ℕ
poke_export = 0x01 ∷ 0x04 ∷ 0x70 ∷ 0x6F ∷ 0x6B ∷ 0x65 ∷ 0x00 ∷ 0x00 ∷ []

abbrev poke_code : List ℕ
poke_code = 0x01 ∷ 0x09 ∷ 0x00 ∷ 0x20 ∷ 0x00 ∷ 0x20 ∷ 0x01 ∷ 0x36 ∷ 0x02 ∷ 0x00 ∷ 0x0B ∷ []

abbrev poke_from_code : List ℕ
poke_from_code = 0x0A ∷ 0x0B ∷ poke_code ++ []

abbrev poke_from_export : List ℕ
poke_from_export = 0x07 ∷ 0x08 ∷ poke_export ++ poke_from_code

abbrev poke_from_memory : List ℕ
poke_from_memory = 0x05 ∷ 0x03 ∷ poke_memory ++ poke_from_export

abbrev poke_from_function : List ℕ
poke_from_function = 0x03 ∷ 0x02 ∷ poke_function ++ poke_from_memory

abbrev poke_from_type : List ℕ
poke_from_type = 0x01 ∷ 0x06 ∷ poke_type ++ poke_from_function

abbrev poke_sections : List Section
poke_sections = record { id = 1; contents = poke_type } ∷ record { id = 3; contents = poke_function } ∷ record { id = 5; contents = poke_memory } ∷ record { id = 7; contents = poke_export } ∷ record { id = 10; contents = poke_code } ∷ []

poke_follows : TakesEach TakesSection poke_sections poke_from_type []
poke_follows = (_, record { after = _; id = refl; sized = record { mid = poke_type ++ poke_from_function; count = inl (omega arith, omega arith, refl, refl); items = refl } }, (_, record { after = _; id = refl; sized = record { mid = poke_function ++ poke_from_memory; count = inl (omega arith, omega arith, refl, refl); items = refl } }, (_, record { after = _; id = refl; sized = record { mid = poke_memory ++ poke_from_export; count = inl (omega arith, omega arith, refl, refl); items = refl } }, (_, record { after = _; id = refl; sized = record { mid = poke_export ++ poke_from_code; count = inl (omega arith, omega arith, refl, refl); items = refl } }, (_, record { after = _; id = refl; sized = record { mid = poke_code ++ []; count = inl (omega arith, omega arith, refl, refl); items = refl } }, refl)))))

poke_type_spelled : TakesVec TakesFuncType poke_module.types poke_type []
poke_type_spelled = record { mid = _; count = inl (omega arith, omega arith, refl, refl); items = (_, record { after = _; mid = _; tag = refl; params = record { mid = _; count = inl (omega arith, omega arith, refl, refl); items = (_, refl, (_, refl, refl)) }; results = record { mid = _; count = inl (omega arith, omega arith, refl, refl); items = refl } }, refl) }

poke_function_spelled : TakesVec (TakesUnsigned 32) (map (λ (f : FunctionTree). f.type_index) poke_module.functions) poke_function []
poke_function_spelled = record { mid = _; count = inl (omega arith, omega arith, refl, refl); items = (_, inl (omega arith, omega arith, refl, refl), refl) }

poke_memory_spelled : TakesVec TakesLimits poke_module.memories poke_memory []
poke_memory_spelled = record { mid = _; count = inl (omega arith, omega arith, refl, refl); items = (_, (_, refl, inl (omega arith, omega arith, refl, refl)), refl) }

poke_export_spelled : TakesVec TakesExport poke_module.exports poke_export []
unfolding lib.Utf8.encode
poke_export_spelled = record { mid = _; count = inl (omega arith, omega arith, refl, refl); items = (_, record { mid = _; name = record { spelled = record { mid = _; count = inl (omega arith, omega arith, refl, refl); items = refl }; utf8 = (112 ∷ 111 ∷ 107 ∷ 101 ∷ [], (refl, refl)) }; desc = (_, refl, inl (omega arith, omega arith, refl, refl)) }, refl) }

poke_code_spelled : TakesVec (TakesSizedBody One) (map body_of poke_module.functions) poke_code []
unfolding shape
poke_code_spelled = record { mid = _; count = inl (omega arith, omega arith, refl, refl); items = (_, record { contents = 0x00 ∷ 0x20 ∷ 0x00 ∷ 0x20 ∷ 0x01 ∷ 0x36 ∷ 0x02 ∷ 0x00 ∷ 0x0B ∷ []; sized = record { mid = _; count = inl (omega arith, omega arith, refl, refl); items = refl }; body = record { runs = []; mid = _; spelled = record { mid = _; count = inl (omega arith, omega arith, refl, refl); items = refl }; locals = refl; few = omega arith; code = (_, record { opcode = 0x20; after = _; leads = refl; follows = (0, refl, inl (omega arith, omega arith, refl, refl)) }, (_, record { opcode = 0x20; after = _; leads = refl; follows = (1, refl, inl (omega arith, omega arith, refl, refl)) }, (_, record { opcode = 0x36; after = _; leads = refl; follows = (record { align = 2; offset = 0 }, _, refl, inl (omega arith, omega arith, refl, refl), inl (omega arith, omega arith, refl, refl)) }, refl))) } }, refl) }

poke_is_spelled : Spells One (0x00 ∷ 0x61 ∷ 0x73 ∷ 0x6D ∷ 0x01 ∷ 0x00 ∷ 0x00 ∷ 0x00 ∷ poke_from_type) poke_module
poke_is_spelled = record {
  after = poke_from_type;
  sections = poke_sections;
  header = refl;
  whole = poke_follows;
  ordered = inr (omega arith, omega arith, inr (omega arith, omega arith, inr (omega arith, omega arith, inr (omega arith, omega arith, inr (omega arith, omega arith, tt)))));
  fields = record {
    types = poke_type_spelled;
    imports = refl;
    function_types = poke_function_spelled;
    tables = refl;
    memories = poke_memory_spelled;
    globals = refl;
    exports = poke_export_spelled;
    start = refl;
    element_segments = refl;
    bodies = poke_code_spelled;
    data_segments = refl;
    data_count = tt;
  };
}

-- ---- wrap

abbrev wrap_type : List ℕ
wrap_type = 0x01 ∷ 0x60 ∷ 0x01 ∷ 0x7F ∷ 0x01 ∷ 0x7F ∷ []

abbrev wrap_function : List ℕ
wrap_function = 0x01 ∷ 0x00 ∷ []

abbrev wrap_memory : List ℕ
wrap_memory = 0x01 ∷ 0x00 ∷ 0x01 ∷ []

abbrev wrap_export : List ℕ
wrap_export = 0x01 ∷ 0x01 ∷ 0x77 ∷ 0x00 ∷ 0x00 ∷ []

abbrev wrap_code : List ℕ
wrap_code = 0x01 ∷ 0x0B ∷ 0x00 ∷ 0x20 ∷ 0x00 ∷ 0x28 ∷ 0x02 ∷ 0xFF ∷ 0xFF ∷ 0xFF ∷ 0xFF ∷ 0x0F ∷ 0x0B ∷ []

abbrev wrap_from_code : List ℕ
wrap_from_code = 0x0A ∷ 0x0D ∷ wrap_code ++ []

abbrev wrap_from_export : List ℕ
wrap_from_export = 0x07 ∷ 0x05 ∷ wrap_export ++ wrap_from_code

abbrev wrap_from_memory : List ℕ
wrap_from_memory = 0x05 ∷ 0x03 ∷ wrap_memory ++ wrap_from_export

abbrev wrap_from_function : List ℕ
wrap_from_function = 0x03 ∷ 0x02 ∷ wrap_function ++ wrap_from_memory

abbrev wrap_from_type : List ℕ
wrap_from_type = 0x01 ∷ 0x06 ∷ wrap_type ++ wrap_from_function

abbrev wrap_sections : List Section
wrap_sections = record { id = 1; contents = wrap_type } ∷ record { id = 3; contents = wrap_function } ∷ record { id = 5; contents = wrap_memory } ∷ record { id = 7; contents = wrap_export } ∷ record { id = 10; contents = wrap_code } ∷ []

wrap_follows : TakesEach TakesSection wrap_sections wrap_from_type []
wrap_follows = (_, record { after = _; id = refl; sized = record { mid = wrap_type ++ wrap_from_function; count = inl (omega arith, omega arith, refl, refl); items = refl } }, (_, record { after = _; id = refl; sized = record { mid = wrap_function ++ wrap_from_memory; count = inl (omega arith, omega arith, refl, refl); items = refl } }, (_, record { after = _; id = refl; sized = record { mid = wrap_memory ++ wrap_from_export; count = inl (omega arith, omega arith, refl, refl); items = refl } }, (_, record { after = _; id = refl; sized = record { mid = wrap_export ++ wrap_from_code; count = inl (omega arith, omega arith, refl, refl); items = refl } }, (_, record { after = _; id = refl; sized = record { mid = wrap_code ++ []; count = inl (omega arith, omega arith, refl, refl); items = refl } }, refl)))))

wrap_type_spelled : TakesVec TakesFuncType wrap_module.types wrap_type []
wrap_type_spelled = record { mid = _; count = inl (omega arith, omega arith, refl, refl); items = (_, record { after = _; mid = _; tag = refl; params = record { mid = _; count = inl (omega arith, omega arith, refl, refl); items = (_, refl, refl) }; results = record { mid = _; count = inl (omega arith, omega arith, refl, refl); items = (_, refl, refl) } }, refl) }

wrap_function_spelled : TakesVec (TakesUnsigned 32) (map (λ (f : FunctionTree). f.type_index) wrap_module.functions) wrap_function []
wrap_function_spelled = record { mid = _; count = inl (omega arith, omega arith, refl, refl); items = (_, inl (omega arith, omega arith, refl, refl), refl) }

wrap_memory_spelled : TakesVec TakesLimits wrap_module.memories wrap_memory []
wrap_memory_spelled = record { mid = _; count = inl (omega arith, omega arith, refl, refl); items = (_, (_, refl, inl (omega arith, omega arith, refl, refl)), refl) }

wrap_export_spelled : TakesVec TakesExport wrap_module.exports wrap_export []
unfolding lib.Utf8.encode
wrap_export_spelled = record { mid = _; count = inl (omega arith, omega arith, refl, refl); items = (_, record { mid = _; name = record { spelled = record { mid = _; count = inl (omega arith, omega arith, refl, refl); items = refl }; utf8 = (119 ∷ [], (refl, refl)) }; desc = (_, refl, inl (omega arith, omega arith, refl, refl)) }, refl) }

wrap_code_spelled : TakesVec (TakesSizedBody One) (map body_of wrap_module.functions) wrap_code []
unfolding shape
wrap_code_spelled = record { mid = _; count = inl (omega arith, omega arith, refl, refl); items = (_, record { contents = 0x00 ∷ 0x20 ∷ 0x00 ∷ 0x28 ∷ 0x02 ∷ 0xFF ∷ 0xFF ∷ 0xFF ∷ 0xFF ∷ 0x0F ∷ 0x0B ∷ []; sized = record { mid = _; count = inl (omega arith, omega arith, refl, refl); items = refl }; body = record { runs = []; mid = _; spelled = record { mid = _; count = inl (omega arith, omega arith, refl, refl); items = refl }; locals = refl; few = omega arith; code = (_, record { opcode = 0x20; after = _; leads = refl; follows = (0, refl, inl (omega arith, omega arith, refl, refl)) }, (_, record { opcode = 0x28; after = _; leads = refl; follows = (record { align = 2; offset = 4294967295 }, _, refl, inl (omega arith, omega arith, refl, refl), inr (omega arith, omega arith, 33554431, inr (omega arith, omega arith, 262143, inr (omega arith, omega arith, 2047, inr (omega arith, omega arith, 15, inl (omega arith, omega arith, refl, refl), refl), refl), refl), refl)) }, refl)) } }, refl) }

wrap_is_spelled : Spells One (0x00 ∷ 0x61 ∷ 0x73 ∷ 0x6D ∷ 0x01 ∷ 0x00 ∷ 0x00 ∷ 0x00 ∷ wrap_from_type) wrap_module
wrap_is_spelled = record {
  after = wrap_from_type;
  sections = wrap_sections;
  header = refl;
  whole = wrap_follows;
  ordered = inr (omega arith, omega arith, inr (omega arith, omega arith, inr (omega arith, omega arith, inr (omega arith, omega arith, inr (omega arith, omega arith, tt)))));
  fields = record {
    types = wrap_type_spelled;
    imports = refl;
    function_types = wrap_function_spelled;
    tables = refl;
    memories = wrap_memory_spelled;
    globals = refl;
    exports = wrap_export_spelled;
    start = refl;
    element_segments = refl;
    bodies = wrap_code_spelled;
    data_segments = refl;
    data_count = tt;
  };
}

-- ---- grown

abbrev grown_type : List ℕ
grown_type = 0x02 ∷ 0x60 ∷ 0x00 ∷ 0x00 ∷ 0x60 ∷ 0x00 ∷ 0x01 ∷ 0x7F ∷ []

abbrev grown_function : List ℕ
grown_function = 0x02 ∷ 0x00 ∷ 0x01 ∷ []

abbrev grown_memory : List ℕ
grown_memory = 0x01 ∷ 0x00 ∷ 0x01 ∷ []

abbrev grown_export : List ℕ
grown_export = 0x02 ∷ 0x05 ∷ 0x64 ∷ 0x69 ∷ 0x72 ∷ 0x74 ∷ 0x79 ∷ 0x00 ∷ 0x00 ∷ 0x04 ∷ 0x6C ∷ 0x6F ∷ 0x6F ∷ 0x6B ∷ 0x00 ∷ 0x01 ∷ []

abbrev grown_code : List ℕ
grown_code = 0x02 ∷ 0x15 ∷ 0x00 ∷ 0x41 ∷ 0x01 ∷ 0x40 ∷ 0x00 ∷ 0x1A ∷ 0x41 ∷ 0xFF ∷ 0xFF ∷ 0x07 ∷ 0x41 ∷ 0x7F ∷ 0x3A ∷ 0x00 ∷ 0x00 ∷ 0x03 ∷ 0x40 ∷ 0x0C ∷ 0x00 ∷ 0x0B ∷ 0x0B ∷ 0x0E ∷ 0x00 ∷ 0x41 ∷ 0x01 ∷ 0x40 ∷ 0x00 ∷ 0x1A ∷ 0x41 ∷ 0xFF ∷ 0xFF ∷ 0x07 ∷ 0x2D ∷ 0x00 ∷ 0x00 ∷ 0x0B ∷ []

abbrev grown_from_code : List ℕ
grown_from_code = 0x0A ∷ 0x26 ∷ grown_code ++ []

abbrev grown_from_export : List ℕ
grown_from_export = 0x07 ∷ 0x10 ∷ grown_export ++ grown_from_code

abbrev grown_from_memory : List ℕ
grown_from_memory = 0x05 ∷ 0x03 ∷ grown_memory ++ grown_from_export

abbrev grown_from_function : List ℕ
grown_from_function = 0x03 ∷ 0x03 ∷ grown_function ++ grown_from_memory

abbrev grown_from_type : List ℕ
grown_from_type = 0x01 ∷ 0x08 ∷ grown_type ++ grown_from_function

abbrev grown_sections : List Section
grown_sections = record { id = 1; contents = grown_type } ∷ record { id = 3; contents = grown_function } ∷ record { id = 5; contents = grown_memory } ∷ record { id = 7; contents = grown_export } ∷ record { id = 10; contents = grown_code } ∷ []

grown_follows : TakesEach TakesSection grown_sections grown_from_type []
grown_follows = (_, record { after = _; id = refl; sized = record { mid = grown_type ++ grown_from_function; count = inl (omega arith, omega arith, refl, refl); items = refl } }, (_, record { after = _; id = refl; sized = record { mid = grown_function ++ grown_from_memory; count = inl (omega arith, omega arith, refl, refl); items = refl } }, (_, record { after = _; id = refl; sized = record { mid = grown_memory ++ grown_from_export; count = inl (omega arith, omega arith, refl, refl); items = refl } }, (_, record { after = _; id = refl; sized = record { mid = grown_export ++ grown_from_code; count = inl (omega arith, omega arith, refl, refl); items = refl } }, (_, record { after = _; id = refl; sized = record { mid = grown_code ++ []; count = inl (omega arith, omega arith, refl, refl); items = refl } }, refl)))))

grown_type_spelled : TakesVec TakesFuncType grown_module.types grown_type []
grown_type_spelled = record { mid = _; count = inl (omega arith, omega arith, refl, refl); items = (_, record { after = _; mid = _; tag = refl; params = record { mid = _; count = inl (omega arith, omega arith, refl, refl); items = refl }; results = record { mid = _; count = inl (omega arith, omega arith, refl, refl); items = refl } }, (_, record { after = _; mid = _; tag = refl; params = record { mid = _; count = inl (omega arith, omega arith, refl, refl); items = refl }; results = record { mid = _; count = inl (omega arith, omega arith, refl, refl); items = (_, refl, refl) } }, refl)) }

grown_function_spelled : TakesVec (TakesUnsigned 32) (map (λ (f : FunctionTree). f.type_index) grown_module.functions) grown_function []
grown_function_spelled = record { mid = _; count = inl (omega arith, omega arith, refl, refl); items = (_, inl (omega arith, omega arith, refl, refl), (_, inl (omega arith, omega arith, refl, refl), refl)) }

grown_memory_spelled : TakesVec TakesLimits grown_module.memories grown_memory []
grown_memory_spelled = record { mid = _; count = inl (omega arith, omega arith, refl, refl); items = (_, (_, refl, inl (omega arith, omega arith, refl, refl)), refl) }

grown_export_spelled : TakesVec TakesExport grown_module.exports grown_export []
unfolding lib.Utf8.encode
grown_export_spelled = record { mid = _; count = inl (omega arith, omega arith, refl, refl); items = (_, record { mid = _; name = record { spelled = record { mid = _; count = inl (omega arith, omega arith, refl, refl); items = refl }; utf8 = (100 ∷ 105 ∷ 114 ∷ 116 ∷ 121 ∷ [], (refl, refl)) }; desc = (_, refl, inl (omega arith, omega arith, refl, refl)) }, (_, record { mid = _; name = record { spelled = record { mid = _; count = inl (omega arith, omega arith, refl, refl); items = refl }; utf8 = (108 ∷ 111 ∷ 111 ∷ 107 ∷ [], (refl, refl)) }; desc = (_, refl, inl (omega arith, omega arith, refl, refl)) }, refl)) }

grown_code_spelled : TakesVec (TakesSizedBody One) (map body_of grown_module.functions) grown_code []
unfolding shape
grown_code_spelled = record { mid = _; count = inl (omega arith, omega arith, refl, refl); items = (_, record { contents = 0x00 ∷ 0x41 ∷ 0x01 ∷ 0x40 ∷ 0x00 ∷ 0x1A ∷ 0x41 ∷ 0xFF ∷ 0xFF ∷ 0x07 ∷ 0x41 ∷ 0x7F ∷ 0x3A ∷ 0x00 ∷ 0x00 ∷ 0x03 ∷ 0x40 ∷ 0x0C ∷ 0x00 ∷ 0x0B ∷ 0x0B ∷ []; sized = record { mid = _; count = inl (omega arith, omega arith, refl, refl); items = refl }; body = record { runs = []; mid = _; spelled = record { mid = _; count = inl (omega arith, omega arith, refl, refl); items = refl }; locals = refl; few = omega arith; code = (_, record { opcode = 0x41; after = _; leads = refl; follows = (pos 1, refl, inl (omega arith, omega arith, refl, refl)) }, (_, record { opcode = 0x40; after = _; leads = refl; follows = (refl, refl) }, (_, record { opcode = 0x1A; after = _; leads = refl; follows = (refl, refl) }, (_, record { opcode = 0x41; after = _; leads = refl; follows = (pos 131071, refl, inr (inr (omega arith, omega arith, pos 1023, inr (inr (omega arith, omega arith, pos 7, inl (omega arith, omega arith, refl, refl), refl)), refl))) }, (_, record { opcode = 0x41; after = _; leads = refl; follows = (negsuc 0, refl, inr (inl (omega arith, omega arith, omega arith, refl, refl))) }, (_, record { opcode = 0x3A; after = _; leads = refl; follows = (record { align = 0; offset = 0 }, _, refl, inl (omega arith, omega arith, refl, refl), inl (omega arith, omega arith, refl, refl)) }, (_, refl, _, refl, _, (_, record { opcode = 0x0C; after = _; leads = refl; follows = (0, refl, inl (omega arith, omega arith, refl, refl)) }, refl), refl))))))) } }, (_, record { contents = 0x00 ∷ 0x41 ∷ 0x01 ∷ 0x40 ∷ 0x00 ∷ 0x1A ∷ 0x41 ∷ 0xFF ∷ 0xFF ∷ 0x07 ∷ 0x2D ∷ 0x00 ∷ 0x00 ∷ 0x0B ∷ []; sized = record { mid = _; count = inl (omega arith, omega arith, refl, refl); items = refl }; body = record { runs = []; mid = _; spelled = record { mid = _; count = inl (omega arith, omega arith, refl, refl); items = refl }; locals = refl; few = omega arith; code = (_, record { opcode = 0x41; after = _; leads = refl; follows = (pos 1, refl, inl (omega arith, omega arith, refl, refl)) }, (_, record { opcode = 0x40; after = _; leads = refl; follows = (refl, refl) }, (_, record { opcode = 0x1A; after = _; leads = refl; follows = (refl, refl) }, (_, record { opcode = 0x41; after = _; leads = refl; follows = (pos 131071, refl, inr (inr (omega arith, omega arith, pos 1023, inr (inr (omega arith, omega arith, pos 7, inl (omega arith, omega arith, refl, refl), refl)), refl))) }, (_, record { opcode = 0x2D; after = _; leads = refl; follows = (record { align = 0; offset = 0 }, _, refl, inl (omega arith, omega arith, refl, refl), inl (omega arith, omega arith, refl, refl)) }, refl))))) } }, refl)) }

grown_is_spelled : Spells One (0x00 ∷ 0x61 ∷ 0x73 ∷ 0x6D ∷ 0x01 ∷ 0x00 ∷ 0x00 ∷ 0x00 ∷ grown_from_type) grown_module
grown_is_spelled = record {
  after = grown_from_type;
  sections = grown_sections;
  header = refl;
  whole = grown_follows;
  ordered = inr (omega arith, omega arith, inr (omega arith, omega arith, inr (omega arith, omega arith, inr (omega arith, omega arith, inr (omega arith, omega arith, tt)))));
  fields = record {
    types = grown_type_spelled;
    imports = refl;
    function_types = grown_function_spelled;
    tables = refl;
    memories = grown_memory_spelled;
    globals = refl;
    exports = grown_export_spelled;
    start = refl;
    element_segments = refl;
    bodies = grown_code_spelled;
    data_segments = refl;
    data_count = tt;
  };
}

-- ---- grow

abbrev grow_type : List ℕ
grow_type = 0x01 ∷ 0x60 ∷ 0x01 ∷ 0x7F ∷ 0x01 ∷ 0x7F ∷ []

abbrev grow_function : List ℕ
grow_function = 0x01 ∷ 0x00 ∷ []

abbrev grow_memory : List ℕ
grow_memory = 0x01 ∷ 0x00 ∷ 0x01 ∷ []

abbrev grow_export : List ℕ
grow_export = 0x01 ∷ 0x04 ∷ 0x67 ∷ 0x72 ∷ 0x6F ∷ 0x77 ∷ 0x00 ∷ 0x00 ∷ []

abbrev grow_code : List ℕ
grow_code = 0x01 ∷ 0x06 ∷ 0x00 ∷ 0x20 ∷ 0x00 ∷ 0x40 ∷ 0x00 ∷ 0x0B ∷ []

abbrev grow_from_code : List ℕ
grow_from_code = 0x0A ∷ 0x08 ∷ grow_code ++ []

abbrev grow_from_export : List ℕ
grow_from_export = 0x07 ∷ 0x08 ∷ grow_export ++ grow_from_code

abbrev grow_from_memory : List ℕ
grow_from_memory = 0x05 ∷ 0x03 ∷ grow_memory ++ grow_from_export

abbrev grow_from_function : List ℕ
grow_from_function = 0x03 ∷ 0x02 ∷ grow_function ++ grow_from_memory

abbrev grow_from_type : List ℕ
grow_from_type = 0x01 ∷ 0x06 ∷ grow_type ++ grow_from_function

abbrev grow_sections : List Section
grow_sections = record { id = 1; contents = grow_type } ∷ record { id = 3; contents = grow_function } ∷ record { id = 5; contents = grow_memory } ∷ record { id = 7; contents = grow_export } ∷ record { id = 10; contents = grow_code } ∷ []

grow_follows : TakesEach TakesSection grow_sections grow_from_type []
grow_follows = (_, record { after = _; id = refl; sized = record { mid = grow_type ++ grow_from_function; count = inl (omega arith, omega arith, refl, refl); items = refl } }, (_, record { after = _; id = refl; sized = record { mid = grow_function ++ grow_from_memory; count = inl (omega arith, omega arith, refl, refl); items = refl } }, (_, record { after = _; id = refl; sized = record { mid = grow_memory ++ grow_from_export; count = inl (omega arith, omega arith, refl, refl); items = refl } }, (_, record { after = _; id = refl; sized = record { mid = grow_export ++ grow_from_code; count = inl (omega arith, omega arith, refl, refl); items = refl } }, (_, record { after = _; id = refl; sized = record { mid = grow_code ++ []; count = inl (omega arith, omega arith, refl, refl); items = refl } }, refl)))))

grow_type_spelled : TakesVec TakesFuncType grow_module.types grow_type []
grow_type_spelled = record { mid = _; count = inl (omega arith, omega arith, refl, refl); items = (_, record { after = _; mid = _; tag = refl; params = record { mid = _; count = inl (omega arith, omega arith, refl, refl); items = (_, refl, refl) }; results = record { mid = _; count = inl (omega arith, omega arith, refl, refl); items = (_, refl, refl) } }, refl) }

grow_function_spelled : TakesVec (TakesUnsigned 32) (map (λ (f : FunctionTree). f.type_index) grow_module.functions) grow_function []
grow_function_spelled = record { mid = _; count = inl (omega arith, omega arith, refl, refl); items = (_, inl (omega arith, omega arith, refl, refl), refl) }

grow_memory_spelled : TakesVec TakesLimits grow_module.memories grow_memory []
grow_memory_spelled = record { mid = _; count = inl (omega arith, omega arith, refl, refl); items = (_, (_, refl, inl (omega arith, omega arith, refl, refl)), refl) }

grow_export_spelled : TakesVec TakesExport grow_module.exports grow_export []
unfolding lib.Utf8.encode
grow_export_spelled = record { mid = _; count = inl (omega arith, omega arith, refl, refl); items = (_, record { mid = _; name = record { spelled = record { mid = _; count = inl (omega arith, omega arith, refl, refl); items = refl }; utf8 = (103 ∷ 114 ∷ 111 ∷ 119 ∷ [], (refl, refl)) }; desc = (_, refl, inl (omega arith, omega arith, refl, refl)) }, refl) }

grow_code_spelled : TakesVec (TakesSizedBody One) (map body_of grow_module.functions) grow_code []
unfolding shape
grow_code_spelled = record { mid = _; count = inl (omega arith, omega arith, refl, refl); items = (_, record { contents = 0x00 ∷ 0x20 ∷ 0x00 ∷ 0x40 ∷ 0x00 ∷ 0x0B ∷ []; sized = record { mid = _; count = inl (omega arith, omega arith, refl, refl); items = refl }; body = record { runs = []; mid = _; spelled = record { mid = _; count = inl (omega arith, omega arith, refl, refl); items = refl }; locals = refl; few = omega arith; code = (_, record { opcode = 0x20; after = _; leads = refl; follows = (0, refl, inl (omega arith, omega arith, refl, refl)) }, (_, record { opcode = 0x40; after = _; leads = refl; follows = (refl, refl) }, refl)) } }, refl) }

grow_is_spelled : Spells One (0x00 ∷ 0x61 ∷ 0x73 ∷ 0x6D ∷ 0x01 ∷ 0x00 ∷ 0x00 ∷ 0x00 ∷ grow_from_type) grow_module
grow_is_spelled = record {
  after = grow_from_type;
  sections = grow_sections;
  header = refl;
  whole = grow_follows;
  ordered = inr (omega arith, omega arith, inr (omega arith, omega arith, inr (omega arith, omega arith, inr (omega arith, omega arith, inr (omega arith, omega arith, tt)))));
  fields = record {
    types = grow_type_spelled;
    imports = refl;
    function_types = grow_function_spelled;
    tables = refl;
    memories = grow_memory_spelled;
    globals = refl;
    exports = grow_export_spelled;
    start = refl;
    element_segments = refl;
    bodies = grow_code_spelled;
    data_segments = refl;
    data_count = tt;
  };
}

-- ---- div

abbrev div_type : List ℕ
div_type = 0x01 ∷ 0x60 ∷ 0x02 ∷ 0x7F ∷ 0x7F ∷ 0x01 ∷ 0x7F ∷ []

abbrev div_function : List ℕ
div_function = 0x02 ∷ 0x00 ∷ 0x00 ∷ []

abbrev div_export : List ℕ
div_export = 0x02 ∷ 0x01 ∷ 0x64 ∷ 0x00 ∷ 0x00 ∷ 0x01 ∷ 0x72 ∷ 0x00 ∷ 0x01 ∷ []

abbrev div_code : List ℕ
div_code = 0x02 ∷ 0x07 ∷ 0x00 ∷ 0x20 ∷ 0x00 ∷ 0x20 ∷ 0x01 ∷ 0x6D ∷ 0x0B ∷ 0x07 ∷ 0x00 ∷ 0x20 ∷ 0x00 ∷ 0x20 ∷ 0x01 ∷ 0x6F ∷ 0x0B ∷ []

abbrev div_from_code : List ℕ
div_from_code = 0x0A ∷ 0x11 ∷ div_code ++ []

abbrev div_from_export : List ℕ
div_from_export = 0x07 ∷ 0x09 ∷ div_export ++ div_from_code

abbrev div_from_function : List ℕ
div_from_function = 0x03 ∷ 0x03 ∷ div_function ++ div_from_export

abbrev div_from_type : List ℕ
div_from_type = 0x01 ∷ 0x07 ∷ div_type ++ div_from_function

abbrev div_sections : List Section
div_sections = record { id = 1; contents = div_type } ∷ record { id = 3; contents = div_function } ∷ record { id = 7; contents = div_export } ∷ record { id = 10; contents = div_code } ∷ []

div_follows : TakesEach TakesSection div_sections div_from_type []
div_follows = (_, record { after = _; id = refl; sized = record { mid = div_type ++ div_from_function; count = inl (omega arith, omega arith, refl, refl); items = refl } }, (_, record { after = _; id = refl; sized = record { mid = div_function ++ div_from_export; count = inl (omega arith, omega arith, refl, refl); items = refl } }, (_, record { after = _; id = refl; sized = record { mid = div_export ++ div_from_code; count = inl (omega arith, omega arith, refl, refl); items = refl } }, (_, record { after = _; id = refl; sized = record { mid = div_code ++ []; count = inl (omega arith, omega arith, refl, refl); items = refl } }, refl))))

div_type_spelled : TakesVec TakesFuncType div_module.types div_type []
div_type_spelled = record { mid = _; count = inl (omega arith, omega arith, refl, refl); items = (_, record { after = _; mid = _; tag = refl; params = record { mid = _; count = inl (omega arith, omega arith, refl, refl); items = (_, refl, (_, refl, refl)) }; results = record { mid = _; count = inl (omega arith, omega arith, refl, refl); items = (_, refl, refl) } }, refl) }

div_function_spelled : TakesVec (TakesUnsigned 32) (map (λ (f : FunctionTree). f.type_index) div_module.functions) div_function []
div_function_spelled = record { mid = _; count = inl (omega arith, omega arith, refl, refl); items = (_, inl (omega arith, omega arith, refl, refl), (_, inl (omega arith, omega arith, refl, refl), refl)) }

div_export_spelled : TakesVec TakesExport div_module.exports div_export []
unfolding lib.Utf8.encode
div_export_spelled = record { mid = _; count = inl (omega arith, omega arith, refl, refl); items = (_, record { mid = _; name = record { spelled = record { mid = _; count = inl (omega arith, omega arith, refl, refl); items = refl }; utf8 = (100 ∷ [], (refl, refl)) }; desc = (_, refl, inl (omega arith, omega arith, refl, refl)) }, (_, record { mid = _; name = record { spelled = record { mid = _; count = inl (omega arith, omega arith, refl, refl); items = refl }; utf8 = (114 ∷ [], (refl, refl)) }; desc = (_, refl, inl (omega arith, omega arith, refl, refl)) }, refl)) }

div_code_spelled : TakesVec (TakesSizedBody One) (map body_of div_module.functions) div_code []
unfolding shape
div_code_spelled = record { mid = _; count = inl (omega arith, omega arith, refl, refl); items = (_, record { contents = 0x00 ∷ 0x20 ∷ 0x00 ∷ 0x20 ∷ 0x01 ∷ 0x6D ∷ 0x0B ∷ []; sized = record { mid = _; count = inl (omega arith, omega arith, refl, refl); items = refl }; body = record { runs = []; mid = _; spelled = record { mid = _; count = inl (omega arith, omega arith, refl, refl); items = refl }; locals = refl; few = omega arith; code = (_, record { opcode = 0x20; after = _; leads = refl; follows = (0, refl, inl (omega arith, omega arith, refl, refl)) }, (_, record { opcode = 0x20; after = _; leads = refl; follows = (1, refl, inl (omega arith, omega arith, refl, refl)) }, (_, record { opcode = 0x6D; after = _; leads = refl; follows = (refl, refl) }, refl))) } }, (_, record { contents = 0x00 ∷ 0x20 ∷ 0x00 ∷ 0x20 ∷ 0x01 ∷ 0x6F ∷ 0x0B ∷ []; sized = record { mid = _; count = inl (omega arith, omega arith, refl, refl); items = refl }; body = record { runs = []; mid = _; spelled = record { mid = _; count = inl (omega arith, omega arith, refl, refl); items = refl }; locals = refl; few = omega arith; code = (_, record { opcode = 0x20; after = _; leads = refl; follows = (0, refl, inl (omega arith, omega arith, refl, refl)) }, (_, record { opcode = 0x20; after = _; leads = refl; follows = (1, refl, inl (omega arith, omega arith, refl, refl)) }, (_, record { opcode = 0x6F; after = _; leads = refl; follows = (refl, refl) }, refl))) } }, refl)) }

div_is_spelled : Spells One (0x00 ∷ 0x61 ∷ 0x73 ∷ 0x6D ∷ 0x01 ∷ 0x00 ∷ 0x00 ∷ 0x00 ∷ div_from_type) div_module
div_is_spelled = record {
  after = div_from_type;
  sections = div_sections;
  header = refl;
  whole = div_follows;
  ordered = inr (omega arith, omega arith, inr (omega arith, omega arith, inr (omega arith, omega arith, inr (omega arith, omega arith, tt))));
  fields = record {
    types = div_type_spelled;
    imports = refl;
    function_types = div_function_spelled;
    tables = refl;
    memories = refl;
    globals = refl;
    exports = div_export_spelled;
    start = refl;
    element_segments = refl;
    bodies = div_code_spelled;
    data_segments = refl;
    data_count = tt;
  };
}

-- ---- indirect

abbrev indirect_type : List ℕ
indirect_type = 0x03 ∷ 0x60 ∷ 0x00 ∷ 0x01 ∷ 0x7F ∷ 0x60 ∷ 0x01 ∷ 0x7F ∷ 0x01 ∷ 0x7F ∷ 0x60 ∷ 0x00 ∷ 0x00 ∷ []

abbrev indirect_function : List ℕ
indirect_function = 0x03 ∷ 0x00 ∷ 0x02 ∷ 0x01 ∷ []

abbrev indirect_table : List ℕ
indirect_table = 0x01 ∷ 0x70 ∷ 0x00 ∷ 0x03 ∷ []

abbrev indirect_export : List ℕ
indirect_export = 0x01 ∷ 0x01 ∷ 0x69 ∷ 0x00 ∷ 0x02 ∷ []

abbrev indirect_element : List ℕ
indirect_element = 0x01 ∷ 0x00 ∷ 0x41 ∷ 0x00 ∷ 0x0B ∷ 0x02 ∷ 0x00 ∷ 0x01 ∷ []

abbrev indirect_code : List ℕ
indirect_code = 0x03 ∷ 0x04 ∷ 0x00 ∷ 0x41 ∷ 0x07 ∷ 0x0B ∷ 0x02 ∷ 0x00 ∷ 0x0B ∷ 0x07 ∷ 0x00 ∷ 0x20 ∷ 0x00 ∷ 0x11 ∷ 0x00 ∷ 0x00 ∷ 0x0B ∷ []

abbrev indirect_from_code : List ℕ
indirect_from_code = 0x0A ∷ 0x11 ∷ indirect_code ++ []

abbrev indirect_from_element : List ℕ
indirect_from_element = 0x09 ∷ 0x08 ∷ indirect_element ++ indirect_from_code

abbrev indirect_from_export : List ℕ
indirect_from_export = 0x07 ∷ 0x05 ∷ indirect_export ++ indirect_from_element

abbrev indirect_from_table : List ℕ
indirect_from_table = 0x04 ∷ 0x04 ∷ indirect_table ++ indirect_from_export

abbrev indirect_from_function : List ℕ
indirect_from_function = 0x03 ∷ 0x04 ∷ indirect_function ++ indirect_from_table

abbrev indirect_from_type : List ℕ
indirect_from_type = 0x01 ∷ 0x0D ∷ indirect_type ++ indirect_from_function

abbrev indirect_sections : List Section
indirect_sections = record { id = 1; contents = indirect_type } ∷ record { id = 3; contents = indirect_function } ∷ record { id = 4; contents = indirect_table } ∷ record { id = 7; contents = indirect_export } ∷ record { id = 9; contents = indirect_element } ∷ record { id = 10; contents = indirect_code } ∷ []

indirect_follows : TakesEach TakesSection indirect_sections indirect_from_type []
indirect_follows = (_, record { after = _; id = refl; sized = record { mid = indirect_type ++ indirect_from_function; count = inl (omega arith, omega arith, refl, refl); items = refl } }, (_, record { after = _; id = refl; sized = record { mid = indirect_function ++ indirect_from_table; count = inl (omega arith, omega arith, refl, refl); items = refl } }, (_, record { after = _; id = refl; sized = record { mid = indirect_table ++ indirect_from_export; count = inl (omega arith, omega arith, refl, refl); items = refl } }, (_, record { after = _; id = refl; sized = record { mid = indirect_export ++ indirect_from_element; count = inl (omega arith, omega arith, refl, refl); items = refl } }, (_, record { after = _; id = refl; sized = record { mid = indirect_element ++ indirect_from_code; count = inl (omega arith, omega arith, refl, refl); items = refl } }, (_, record { after = _; id = refl; sized = record { mid = indirect_code ++ []; count = inl (omega arith, omega arith, refl, refl); items = refl } }, refl))))))

indirect_type_spelled : TakesVec TakesFuncType indirect_module.types indirect_type []
indirect_type_spelled = record { mid = _; count = inl (omega arith, omega arith, refl, refl); items = (_, record { after = _; mid = _; tag = refl; params = record { mid = _; count = inl (omega arith, omega arith, refl, refl); items = refl }; results = record { mid = _; count = inl (omega arith, omega arith, refl, refl); items = (_, refl, refl) } }, (_, record { after = _; mid = _; tag = refl; params = record { mid = _; count = inl (omega arith, omega arith, refl, refl); items = (_, refl, refl) }; results = record { mid = _; count = inl (omega arith, omega arith, refl, refl); items = (_, refl, refl) } }, (_, record { after = _; mid = _; tag = refl; params = record { mid = _; count = inl (omega arith, omega arith, refl, refl); items = refl }; results = record { mid = _; count = inl (omega arith, omega arith, refl, refl); items = refl } }, refl))) }

indirect_function_spelled : TakesVec (TakesUnsigned 32) (map (λ (f : FunctionTree). f.type_index) indirect_module.functions) indirect_function []
indirect_function_spelled = record { mid = _; count = inl (omega arith, omega arith, refl, refl); items = (_, inl (omega arith, omega arith, refl, refl), (_, inl (omega arith, omega arith, refl, refl), (_, inl (omega arith, omega arith, refl, refl), refl))) }

indirect_table_spelled : TakesVec TakesTableType indirect_module.tables indirect_table []
indirect_table_spelled = record { mid = _; count = inl (omega arith, omega arith, refl, refl); items = (_, (_, refl, (_, refl, inl (omega arith, omega arith, refl, refl))), refl) }

indirect_export_spelled : TakesVec TakesExport indirect_module.exports indirect_export []
unfolding lib.Utf8.encode
indirect_export_spelled = record { mid = _; count = inl (omega arith, omega arith, refl, refl); items = (_, record { mid = _; name = record { spelled = record { mid = _; count = inl (omega arith, omega arith, refl, refl); items = refl }; utf8 = (105 ∷ [], (refl, refl)) }; desc = (_, refl, inl (omega arith, omega arith, refl, refl)) }, refl) }

indirect_element_spelled : TakesVec (TakesElement One) indirect_module.element_segments indirect_element []
unfolding shape
indirect_element_spelled = record { mid = _; count = inl (omega arith, omega arith, refl, refl); items = (_, record { after_table = _; after_offset = _; table = inl (omega arith, omega arith, refl, refl); offset = (_, record { opcode = 0x41; after = _; leads = refl; follows = (pos 0, refl, inl (omega arith, omega arith, refl, refl)) }, refl); functions = record { mid = _; count = inl (omega arith, omega arith, refl, refl); items = (_, inl (omega arith, omega arith, refl, refl), (_, inl (omega arith, omega arith, refl, refl), refl)) } }, refl) }

indirect_code_spelled : TakesVec (TakesSizedBody One) (map body_of indirect_module.functions) indirect_code []
unfolding shape
indirect_code_spelled = record { mid = _; count = inl (omega arith, omega arith, refl, refl); items = (_, record { contents = 0x00 ∷ 0x41 ∷ 0x07 ∷ 0x0B ∷ []; sized = record { mid = _; count = inl (omega arith, omega arith, refl, refl); items = refl }; body = record { runs = []; mid = _; spelled = record { mid = _; count = inl (omega arith, omega arith, refl, refl); items = refl }; locals = refl; few = omega arith; code = (_, record { opcode = 0x41; after = _; leads = refl; follows = (pos 7, refl, inl (omega arith, omega arith, refl, refl)) }, refl) } }, (_, record { contents = 0x00 ∷ 0x0B ∷ []; sized = record { mid = _; count = inl (omega arith, omega arith, refl, refl); items = refl }; body = record { runs = []; mid = _; spelled = record { mid = _; count = inl (omega arith, omega arith, refl, refl); items = refl }; locals = refl; few = omega arith; code = refl } }, (_, record { contents = 0x00 ∷ 0x20 ∷ 0x00 ∷ 0x11 ∷ 0x00 ∷ 0x00 ∷ 0x0B ∷ []; sized = record { mid = _; count = inl (omega arith, omega arith, refl, refl); items = refl }; body = record { runs = []; mid = _; spelled = record { mid = _; count = inl (omega arith, omega arith, refl, refl); items = refl }; locals = refl; few = omega arith; code = (_, record { opcode = 0x20; after = _; leads = refl; follows = (0, refl, inl (omega arith, omega arith, refl, refl)) }, (_, refl, _, inl (omega arith, omega arith, refl, refl), refl)) } }, refl))) }

indirect_is_spelled : Spells One (0x00 ∷ 0x61 ∷ 0x73 ∷ 0x6D ∷ 0x01 ∷ 0x00 ∷ 0x00 ∷ 0x00 ∷ indirect_from_type) indirect_module
indirect_is_spelled = record {
  after = indirect_from_type;
  sections = indirect_sections;
  header = refl;
  whole = indirect_follows;
  ordered = inr (omega arith, omega arith, inr (omega arith, omega arith, inr (omega arith, omega arith, inr (omega arith, omega arith, inr (omega arith, omega arith, inr (omega arith, omega arith, tt))))));
  fields = record {
    types = indirect_type_spelled;
    imports = refl;
    function_types = indirect_function_spelled;
    tables = indirect_table_spelled;
    memories = refl;
    globals = refl;
    exports = indirect_export_spelled;
    start = refl;
    element_segments = indirect_element_spelled;
    bodies = indirect_code_spelled;
    data_segments = refl;
    data_count = tt;
  };
}

-- ---- recursive

abbrev recursive_type : List ℕ
recursive_type = 0x01 ∷ 0x60 ∷ 0x01 ∷ 0x7F ∷ 0x01 ∷ 0x7F ∷ []

abbrev recursive_function : List ℕ
recursive_function = 0x01 ∷ 0x00 ∷ []

abbrev recursive_export : List ℕ
recursive_export = 0x01 ∷ 0x03 ∷ 0x72 ∷ 0x65 ∷ 0x63 ∷ 0x00 ∷ 0x00 ∷ []

abbrev recursive_code : List ℕ
recursive_code = 0x01 ∷ 0x12 ∷ 0x00 ∷ 0x20 ∷ 0x00 ∷ 0x45 ∷ 0x04 ∷ 0x7F ∷ 0x41 ∷ 0x00 ∷ 0x05 ∷ 0x20 ∷ 0x00 ∷ 0x41 ∷ 0x01 ∷ 0x6B ∷ 0x10 ∷ 0x00 ∷ 0x0B ∷ 0x0B ∷ []

abbrev recursive_from_code : List ℕ
recursive_from_code = 0x0A ∷ 0x14 ∷ recursive_code ++ []

abbrev recursive_from_export : List ℕ
recursive_from_export = 0x07 ∷ 0x07 ∷ recursive_export ++ recursive_from_code

abbrev recursive_from_function : List ℕ
recursive_from_function = 0x03 ∷ 0x02 ∷ recursive_function ++ recursive_from_export

abbrev recursive_from_type : List ℕ
recursive_from_type = 0x01 ∷ 0x06 ∷ recursive_type ++ recursive_from_function

abbrev recursive_sections : List Section
recursive_sections = record { id = 1; contents = recursive_type } ∷ record { id = 3; contents = recursive_function } ∷ record { id = 7; contents = recursive_export } ∷ record { id = 10; contents = recursive_code } ∷ []

recursive_follows : TakesEach TakesSection recursive_sections recursive_from_type []
recursive_follows = (_, record { after = _; id = refl; sized = record { mid = recursive_type ++ recursive_from_function; count = inl (omega arith, omega arith, refl, refl); items = refl } }, (_, record { after = _; id = refl; sized = record { mid = recursive_function ++ recursive_from_export; count = inl (omega arith, omega arith, refl, refl); items = refl } }, (_, record { after = _; id = refl; sized = record { mid = recursive_export ++ recursive_from_code; count = inl (omega arith, omega arith, refl, refl); items = refl } }, (_, record { after = _; id = refl; sized = record { mid = recursive_code ++ []; count = inl (omega arith, omega arith, refl, refl); items = refl } }, refl))))

recursive_type_spelled : TakesVec TakesFuncType recursive_module.types recursive_type []
recursive_type_spelled = record { mid = _; count = inl (omega arith, omega arith, refl, refl); items = (_, record { after = _; mid = _; tag = refl; params = record { mid = _; count = inl (omega arith, omega arith, refl, refl); items = (_, refl, refl) }; results = record { mid = _; count = inl (omega arith, omega arith, refl, refl); items = (_, refl, refl) } }, refl) }

recursive_function_spelled : TakesVec (TakesUnsigned 32) (map (λ (f : FunctionTree). f.type_index) recursive_module.functions) recursive_function []
recursive_function_spelled = record { mid = _; count = inl (omega arith, omega arith, refl, refl); items = (_, inl (omega arith, omega arith, refl, refl), refl) }

recursive_export_spelled : TakesVec TakesExport recursive_module.exports recursive_export []
unfolding lib.Utf8.encode
recursive_export_spelled = record { mid = _; count = inl (omega arith, omega arith, refl, refl); items = (_, record { mid = _; name = record { spelled = record { mid = _; count = inl (omega arith, omega arith, refl, refl); items = refl }; utf8 = (114 ∷ 101 ∷ 99 ∷ [], (refl, refl)) }; desc = (_, refl, inl (omega arith, omega arith, refl, refl)) }, refl) }

recursive_code_spelled : TakesVec (TakesSizedBody One) (map body_of recursive_module.functions) recursive_code []
unfolding shape
recursive_code_spelled = record { mid = _; count = inl (omega arith, omega arith, refl, refl); items = (_, record { contents = 0x00 ∷ 0x20 ∷ 0x00 ∷ 0x45 ∷ 0x04 ∷ 0x7F ∷ 0x41 ∷ 0x00 ∷ 0x05 ∷ 0x20 ∷ 0x00 ∷ 0x41 ∷ 0x01 ∷ 0x6B ∷ 0x10 ∷ 0x00 ∷ 0x0B ∷ 0x0B ∷ []; sized = record { mid = _; count = inl (omega arith, omega arith, refl, refl); items = refl }; body = record { runs = []; mid = _; spelled = record { mid = _; count = inl (omega arith, omega arith, refl, refl); items = refl }; locals = refl; few = omega arith; code = (_, record { opcode = 0x20; after = _; leads = refl; follows = (0, refl, inl (omega arith, omega arith, refl, refl)) }, (_, record { opcode = 0x45; after = _; leads = refl; follows = (refl, refl) }, (_, refl, _, refl, _, inr (_, (_, record { opcode = 0x41; after = _; leads = refl; follows = (pos 0, refl, inl (omega arith, omega arith, refl, refl)) }, refl), (_, record { opcode = 0x20; after = _; leads = refl; follows = (0, refl, inl (omega arith, omega arith, refl, refl)) }, (_, record { opcode = 0x41; after = _; leads = refl; follows = (pos 1, refl, inl (omega arith, omega arith, refl, refl)) }, (_, record { opcode = 0x6B; after = _; leads = refl; follows = (refl, refl) }, (_, refl, _, inl (omega arith, omega arith, refl, refl), refl))))), refl))) } }, refl) }

recursive_is_spelled : Spells One (0x00 ∷ 0x61 ∷ 0x73 ∷ 0x6D ∷ 0x01 ∷ 0x00 ∷ 0x00 ∷ 0x00 ∷ recursive_from_type) recursive_module
recursive_is_spelled = record {
  after = recursive_from_type;
  sections = recursive_sections;
  header = refl;
  whole = recursive_follows;
  ordered = inr (omega arith, omega arith, inr (omega arith, omega arith, inr (omega arith, omega arith, inr (omega arith, omega arith, tt))));
  fields = record {
    types = recursive_type_spelled;
    imports = refl;
    function_types = recursive_function_spelled;
    tables = refl;
    memories = refl;
    globals = refl;
    exports = recursive_export_spelled;
    start = refl;
    element_segments = refl;
    bodies = recursive_code_spelled;
    data_segments = refl;
    data_count = tt;
  };
}

-- ---- start

abbrev start_type : List ℕ
start_type = 0x01 ∷ 0x60 ∷ 0x00 ∷ 0x00 ∷ []

abbrev start_function : List ℕ
start_function = 0x01 ∷ 0x00 ∷ []

abbrev start_export : List ℕ
start_export = 0x01 ∷ 0x01 ∷ 0x73 ∷ 0x00 ∷ 0x00 ∷ []

abbrev start_start : List ℕ
start_start = 0x00 ∷ []

abbrev start_code : List ℕ
start_code = 0x01 ∷ 0x03 ∷ 0x00 ∷ 0x00 ∷ 0x0B ∷ []

abbrev start_from_code : List ℕ
start_from_code = 0x0A ∷ 0x05 ∷ start_code ++ []

abbrev start_from_start : List ℕ
start_from_start = 0x08 ∷ 0x01 ∷ start_start ++ start_from_code

abbrev start_from_export : List ℕ
start_from_export = 0x07 ∷ 0x05 ∷ start_export ++ start_from_start

abbrev start_from_function : List ℕ
start_from_function = 0x03 ∷ 0x02 ∷ start_function ++ start_from_export

abbrev start_from_type : List ℕ
start_from_type = 0x01 ∷ 0x04 ∷ start_type ++ start_from_function

abbrev start_sections : List Section
start_sections = record { id = 1; contents = start_type } ∷ record { id = 3; contents = start_function } ∷ record { id = 7; contents = start_export } ∷ record { id = 8; contents = start_start } ∷ record { id = 10; contents = start_code } ∷ []

start_follows : TakesEach TakesSection start_sections start_from_type []
start_follows = (_, record { after = _; id = refl; sized = record { mid = start_type ++ start_from_function; count = inl (omega arith, omega arith, refl, refl); items = refl } }, (_, record { after = _; id = refl; sized = record { mid = start_function ++ start_from_export; count = inl (omega arith, omega arith, refl, refl); items = refl } }, (_, record { after = _; id = refl; sized = record { mid = start_export ++ start_from_start; count = inl (omega arith, omega arith, refl, refl); items = refl } }, (_, record { after = _; id = refl; sized = record { mid = start_start ++ start_from_code; count = inl (omega arith, omega arith, refl, refl); items = refl } }, (_, record { after = _; id = refl; sized = record { mid = start_code ++ []; count = inl (omega arith, omega arith, refl, refl); items = refl } }, refl)))))

start_type_spelled : TakesVec TakesFuncType start_module.types start_type []
start_type_spelled = record { mid = _; count = inl (omega arith, omega arith, refl, refl); items = (_, record { after = _; mid = _; tag = refl; params = record { mid = _; count = inl (omega arith, omega arith, refl, refl); items = refl }; results = record { mid = _; count = inl (omega arith, omega arith, refl, refl); items = refl } }, refl) }

start_function_spelled : TakesVec (TakesUnsigned 32) (map (λ (f : FunctionTree). f.type_index) start_module.functions) start_function []
start_function_spelled = record { mid = _; count = inl (omega arith, omega arith, refl, refl); items = (_, inl (omega arith, omega arith, refl, refl), refl) }

start_export_spelled : TakesVec TakesExport start_module.exports start_export []
unfolding lib.Utf8.encode
start_export_spelled = record { mid = _; count = inl (omega arith, omega arith, refl, refl); items = (_, record { mid = _; name = record { spelled = record { mid = _; count = inl (omega arith, omega arith, refl, refl); items = refl }; utf8 = (115 ∷ [], (refl, refl)) }; desc = (_, refl, inl (omega arith, omega arith, refl, refl)) }, refl) }

start_code_spelled : TakesVec (TakesSizedBody One) (map body_of start_module.functions) start_code []
unfolding shape
start_code_spelled = record { mid = _; count = inl (omega arith, omega arith, refl, refl); items = (_, record { contents = 0x00 ∷ 0x00 ∷ 0x0B ∷ []; sized = record { mid = _; count = inl (omega arith, omega arith, refl, refl); items = refl }; body = record { runs = []; mid = _; spelled = record { mid = _; count = inl (omega arith, omega arith, refl, refl); items = refl }; locals = refl; few = omega arith; code = (_, record { opcode = 0x00; after = _; leads = refl; follows = (refl, refl) }, refl) } }, refl) }

start_is_spelled : Spells One (0x00 ∷ 0x61 ∷ 0x73 ∷ 0x6D ∷ 0x01 ∷ 0x00 ∷ 0x00 ∷ 0x00 ∷ start_from_type) start_module
start_is_spelled = record {
  after = start_from_type;
  sections = start_sections;
  header = refl;
  whole = start_follows;
  ordered = inr (omega arith, omega arith, inr (omega arith, omega arith, inr (omega arith, omega arith, inr (omega arith, omega arith, inr (omega arith, omega arith, tt)))));
  fields = record {
    types = start_type_spelled;
    imports = refl;
    function_types = start_function_spelled;
    tables = refl;
    memories = refl;
    globals = refl;
    exports = start_export_spelled;
    start = (0, refl, inl (omega arith, omega arith, refl, refl));
    element_segments = refl;
    bodies = start_code_spelled;
    data_segments = refl;
    data_count = tt;
  };
}

-- ---- spin

abbrev spin_type : List ℕ
spin_type = 0x01 ∷ 0x60 ∷ 0x00 ∷ 0x00 ∷ []

abbrev spin_function : List ℕ
spin_function = 0x01 ∷ 0x00 ∷ []

abbrev spin_export : List ℕ
spin_export = 0x01 ∷ 0x01 ∷ 0x73 ∷ 0x00 ∷ 0x00 ∷ []

abbrev spin_start : List ℕ
spin_start = 0x00 ∷ []

abbrev spin_code : List ℕ
spin_code = 0x01 ∷ 0x07 ∷ 0x00 ∷ 0x03 ∷ 0x40 ∷ 0x0C ∷ 0x00 ∷ 0x0B ∷ 0x0B ∷ []

abbrev spin_from_code : List ℕ
spin_from_code = 0x0A ∷ 0x09 ∷ spin_code ++ []

abbrev spin_from_start : List ℕ
spin_from_start = 0x08 ∷ 0x01 ∷ spin_start ++ spin_from_code

abbrev spin_from_export : List ℕ
spin_from_export = 0x07 ∷ 0x05 ∷ spin_export ++ spin_from_start

abbrev spin_from_function : List ℕ
spin_from_function = 0x03 ∷ 0x02 ∷ spin_function ++ spin_from_export

abbrev spin_from_type : List ℕ
spin_from_type = 0x01 ∷ 0x04 ∷ spin_type ++ spin_from_function

abbrev spin_sections : List Section
spin_sections = record { id = 1; contents = spin_type } ∷ record { id = 3; contents = spin_function } ∷ record { id = 7; contents = spin_export } ∷ record { id = 8; contents = spin_start } ∷ record { id = 10; contents = spin_code } ∷ []

spin_follows : TakesEach TakesSection spin_sections spin_from_type []
spin_follows = (_, record { after = _; id = refl; sized = record { mid = spin_type ++ spin_from_function; count = inl (omega arith, omega arith, refl, refl); items = refl } }, (_, record { after = _; id = refl; sized = record { mid = spin_function ++ spin_from_export; count = inl (omega arith, omega arith, refl, refl); items = refl } }, (_, record { after = _; id = refl; sized = record { mid = spin_export ++ spin_from_start; count = inl (omega arith, omega arith, refl, refl); items = refl } }, (_, record { after = _; id = refl; sized = record { mid = spin_start ++ spin_from_code; count = inl (omega arith, omega arith, refl, refl); items = refl } }, (_, record { after = _; id = refl; sized = record { mid = spin_code ++ []; count = inl (omega arith, omega arith, refl, refl); items = refl } }, refl)))))

spin_type_spelled : TakesVec TakesFuncType spin_module.types spin_type []
spin_type_spelled = record { mid = _; count = inl (omega arith, omega arith, refl, refl); items = (_, record { after = _; mid = _; tag = refl; params = record { mid = _; count = inl (omega arith, omega arith, refl, refl); items = refl }; results = record { mid = _; count = inl (omega arith, omega arith, refl, refl); items = refl } }, refl) }

spin_function_spelled : TakesVec (TakesUnsigned 32) (map (λ (f : FunctionTree). f.type_index) spin_module.functions) spin_function []
spin_function_spelled = record { mid = _; count = inl (omega arith, omega arith, refl, refl); items = (_, inl (omega arith, omega arith, refl, refl), refl) }

spin_export_spelled : TakesVec TakesExport spin_module.exports spin_export []
unfolding lib.Utf8.encode
spin_export_spelled = record { mid = _; count = inl (omega arith, omega arith, refl, refl); items = (_, record { mid = _; name = record { spelled = record { mid = _; count = inl (omega arith, omega arith, refl, refl); items = refl }; utf8 = (115 ∷ [], (refl, refl)) }; desc = (_, refl, inl (omega arith, omega arith, refl, refl)) }, refl) }

spin_code_spelled : TakesVec (TakesSizedBody One) (map body_of spin_module.functions) spin_code []
unfolding shape
spin_code_spelled = record { mid = _; count = inl (omega arith, omega arith, refl, refl); items = (_, record { contents = 0x00 ∷ 0x03 ∷ 0x40 ∷ 0x0C ∷ 0x00 ∷ 0x0B ∷ 0x0B ∷ []; sized = record { mid = _; count = inl (omega arith, omega arith, refl, refl); items = refl }; body = record { runs = []; mid = _; spelled = record { mid = _; count = inl (omega arith, omega arith, refl, refl); items = refl }; locals = refl; few = omega arith; code = (_, refl, _, refl, _, (_, record { opcode = 0x0C; after = _; leads = refl; follows = (0, refl, inl (omega arith, omega arith, refl, refl)) }, refl), refl) } }, refl) }

spin_is_spelled : Spells One (0x00 ∷ 0x61 ∷ 0x73 ∷ 0x6D ∷ 0x01 ∷ 0x00 ∷ 0x00 ∷ 0x00 ∷ spin_from_type) spin_module
spin_is_spelled = record {
  after = spin_from_type;
  sections = spin_sections;
  header = refl;
  whole = spin_follows;
  ordered = inr (omega arith, omega arith, inr (omega arith, omega arith, inr (omega arith, omega arith, inr (omega arith, omega arith, inr (omega arith, omega arith, tt)))));
  fields = record {
    types = spin_type_spelled;
    imports = refl;
    function_types = spin_function_spelled;
    tables = refl;
    memories = refl;
    globals = refl;
    exports = spin_export_spelled;
    start = (0, refl, inl (omega arith, omega arith, refl, refl));
    element_segments = refl;
    bodies = spin_code_spelled;
    data_segments = refl;
    data_count = tt;
  };
}

-- ---- misfit

abbrev misfit_memory : List ℕ
misfit_memory = 0x01 ∷ 0x00 ∷ 0x01 ∷ []

abbrev misfit_data : List ℕ
misfit_data = 0x01 ∷ 0x00 ∷ 0x41 ∷ 0xFF ∷ 0xFF ∷ 0x03 ∷ 0x0B ∷ 0x02 ∷ 0x61 ∷ 0x62 ∷ []

abbrev misfit_from_data : List ℕ
misfit_from_data = 0x0B ∷ 0x0A ∷ misfit_data ++ []

abbrev misfit_from_memory : List ℕ
misfit_from_memory = 0x05 ∷ 0x03 ∷ misfit_memory ++ misfit_from_data

abbrev misfit_sections : List Section
misfit_sections = record { id = 5; contents = misfit_memory } ∷ record { id = 11; contents = misfit_data } ∷ []

misfit_follows : TakesEach TakesSection misfit_sections misfit_from_memory []
misfit_follows = (_, record { after = _; id = refl; sized = record { mid = misfit_memory ++ misfit_from_data; count = inl (omega arith, omega arith, refl, refl); items = refl } }, (_, record { after = _; id = refl; sized = record { mid = misfit_data ++ []; count = inl (omega arith, omega arith, refl, refl); items = refl } }, refl))

misfit_memory_spelled : TakesVec TakesLimits misfit_module.memories misfit_memory []
misfit_memory_spelled = record { mid = _; count = inl (omega arith, omega arith, refl, refl); items = (_, (_, refl, inl (omega arith, omega arith, refl, refl)), refl) }

misfit_data_spelled : TakesVec (TakesData One) misfit_module.data_segments misfit_data []
unfolding shape
misfit_data_spelled = record { mid = _; count = inl (omega arith, omega arith, refl, refl); items = (_, record { after_memory = _; after_offset = _; memory = inl (omega arith, omega arith, refl, refl); offset = (_, record { opcode = 0x41; after = _; leads = refl; follows = (pos 65535, refl, inr (inr (omega arith, omega arith, pos 511, inr (inr (omega arith, omega arith, pos 3, inl (omega arith, omega arith, refl, refl), refl)), refl))) }, refl); contents = record { mid = _; count = inl (omega arith, omega arith, refl, refl); items = refl } }, refl) }

misfit_is_spelled : Spells One (0x00 ∷ 0x61 ∷ 0x73 ∷ 0x6D ∷ 0x01 ∷ 0x00 ∷ 0x00 ∷ 0x00 ∷ misfit_from_memory) misfit_module
misfit_is_spelled = record {
  after = misfit_from_memory;
  sections = misfit_sections;
  header = refl;
  whole = misfit_follows;
  ordered = inr (omega arith, omega arith, inr (omega arith, omega arith, tt));
  fields = record {
    types = refl;
    imports = refl;
    function_types = refl;
    tables = refl;
    memories = misfit_memory_spelled;
    globals = refl;
    exports = refl;
    start = refl;
    element_segments = refl;
    bodies = refl;
    data_segments = misfit_data_spelled;
    data_count = tt;
  };
}

-- ---- count

abbrev count_type : List ℕ
count_type = 0x01 ∷ 0x60 ∷ 0x01 ∷ 0x7F ∷ 0x01 ∷ 0x7F ∷ []

abbrev count_function : List ℕ
count_function = 0x01 ∷ 0x00 ∷ []

abbrev count_export : List ℕ
count_export = 0x01 ∷ 0x01 ∷ 0x63 ∷ 0x00 ∷ 0x00 ∷ []

abbrev count_code : List ℕ
count_code = 0x01 ∷ 0x10 ∷ 0x00 ∷ 0x03 ∷ 0x40 ∷ 0x20 ∷ 0x00 ∷ 0x41 ∷ 0x01 ∷ 0x6B ∷ 0x22 ∷ 0x00 ∷ 0x0D ∷ 0x00 ∷ 0x0B ∷ 0x20 ∷ 0x00 ∷ 0x0B ∷ []

abbrev count_from_code : List ℕ
count_from_code = 0x0A ∷ 0x12 ∷ count_code ++ []

abbrev count_from_export : List ℕ
count_from_export = 0x07 ∷ 0x05 ∷ count_export ++ count_from_code

abbrev count_from_function : List ℕ
count_from_function = 0x03 ∷ 0x02 ∷ count_function ++ count_from_export

abbrev count_from_type : List ℕ
count_from_type = 0x01 ∷ 0x06 ∷ count_type ++ count_from_function

abbrev count_sections : List Section
count_sections = record { id = 1; contents = count_type } ∷ record { id = 3; contents = count_function } ∷ record { id = 7; contents = count_export } ∷ record { id = 10; contents = count_code } ∷ []

count_follows : TakesEach TakesSection count_sections count_from_type []
count_follows = (_, record { after = _; id = refl; sized = record { mid = count_type ++ count_from_function; count = inl (omega arith, omega arith, refl, refl); items = refl } }, (_, record { after = _; id = refl; sized = record { mid = count_function ++ count_from_export; count = inl (omega arith, omega arith, refl, refl); items = refl } }, (_, record { after = _; id = refl; sized = record { mid = count_export ++ count_from_code; count = inl (omega arith, omega arith, refl, refl); items = refl } }, (_, record { after = _; id = refl; sized = record { mid = count_code ++ []; count = inl (omega arith, omega arith, refl, refl); items = refl } }, refl))))

count_type_spelled : TakesVec TakesFuncType count_module.types count_type []
count_type_spelled = record { mid = _; count = inl (omega arith, omega arith, refl, refl); items = (_, record { after = _; mid = _; tag = refl; params = record { mid = _; count = inl (omega arith, omega arith, refl, refl); items = (_, refl, refl) }; results = record { mid = _; count = inl (omega arith, omega arith, refl, refl); items = (_, refl, refl) } }, refl) }

count_function_spelled : TakesVec (TakesUnsigned 32) (map (λ (f : FunctionTree). f.type_index) count_module.functions) count_function []
count_function_spelled = record { mid = _; count = inl (omega arith, omega arith, refl, refl); items = (_, inl (omega arith, omega arith, refl, refl), refl) }

count_export_spelled : TakesVec TakesExport count_module.exports count_export []
unfolding lib.Utf8.encode
count_export_spelled = record { mid = _; count = inl (omega arith, omega arith, refl, refl); items = (_, record { mid = _; name = record { spelled = record { mid = _; count = inl (omega arith, omega arith, refl, refl); items = refl }; utf8 = (99 ∷ [], (refl, refl)) }; desc = (_, refl, inl (omega arith, omega arith, refl, refl)) }, refl) }

count_code_spelled : TakesVec (TakesSizedBody One) (map body_of count_module.functions) count_code []
unfolding shape
count_code_spelled = record { mid = _; count = inl (omega arith, omega arith, refl, refl); items = (_, record { contents = 0x00 ∷ 0x03 ∷ 0x40 ∷ 0x20 ∷ 0x00 ∷ 0x41 ∷ 0x01 ∷ 0x6B ∷ 0x22 ∷ 0x00 ∷ 0x0D ∷ 0x00 ∷ 0x0B ∷ 0x20 ∷ 0x00 ∷ 0x0B ∷ []; sized = record { mid = _; count = inl (omega arith, omega arith, refl, refl); items = refl }; body = record { runs = []; mid = _; spelled = record { mid = _; count = inl (omega arith, omega arith, refl, refl); items = refl }; locals = refl; few = omega arith; code = (_, refl, _, refl, _, (_, record { opcode = 0x20; after = _; leads = refl; follows = (0, refl, inl (omega arith, omega arith, refl, refl)) }, (_, record { opcode = 0x41; after = _; leads = refl; follows = (pos 1, refl, inl (omega arith, omega arith, refl, refl)) }, (_, record { opcode = 0x6B; after = _; leads = refl; follows = (refl, refl) }, (_, record { opcode = 0x22; after = _; leads = refl; follows = (0, refl, inl (omega arith, omega arith, refl, refl)) }, (_, record { opcode = 0x0D; after = _; leads = refl; follows = (0, refl, inl (omega arith, omega arith, refl, refl)) }, refl))))), (_, record { opcode = 0x20; after = _; leads = refl; follows = (0, refl, inl (omega arith, omega arith, refl, refl)) }, refl)) } }, refl) }

count_is_spelled : Spells One (0x00 ∷ 0x61 ∷ 0x73 ∷ 0x6D ∷ 0x01 ∷ 0x00 ∷ 0x00 ∷ 0x00 ∷ count_from_type) count_module
count_is_spelled = record {
  after = count_from_type;
  sections = count_sections;
  header = refl;
  whole = count_follows;
  ordered = inr (omega arith, omega arith, inr (omega arith, omega arith, inr (omega arith, omega arith, inr (omega arith, omega arith, tt))));
  fields = record {
    types = count_type_spelled;
    imports = refl;
    function_types = count_function_spelled;
    tables = refl;
    memories = refl;
    globals = refl;
    exports = count_export_spelled;
    start = refl;
    element_segments = refl;
    bodies = count_code_spelled;
    data_segments = refl;
    data_count = tt;
  };
}

-- ---- next

abbrev next_type : List ℕ
next_type = 0x01 ∷ 0x60 ∷ 0x00 ∷ 0x01 ∷ 0x7F ∷ []

abbrev next_function : List ℕ
next_function = 0x01 ∷ 0x00 ∷ []

abbrev next_global : List ℕ
next_global = 0x01 ∷ 0x7F ∷ 0x01 ∷ 0x41 ∷ 0x00 ∷ 0x0B ∷ []

abbrev next_export : List ℕ
next_export = 0x01 ∷ 0x01 ∷ 0x6E ∷ 0x00 ∷ 0x00 ∷ []

abbrev next_code : List ℕ
next_code = 0x01 ∷ 0x0B ∷ 0x00 ∷ 0x23 ∷ 0x00 ∷ 0x41 ∷ 0x01 ∷ 0x6A ∷ 0x24 ∷ 0x00 ∷ 0x23 ∷ 0x00 ∷ 0x0B ∷ []

abbrev next_from_code : List ℕ
next_from_code = 0x0A ∷ 0x0D ∷ next_code ++ []

abbrev next_from_export : List ℕ
next_from_export = 0x07 ∷ 0x05 ∷ next_export ++ next_from_code

abbrev next_from_global : List ℕ
next_from_global = 0x06 ∷ 0x06 ∷ next_global ++ next_from_export

abbrev next_from_function : List ℕ
next_from_function = 0x03 ∷ 0x02 ∷ next_function ++ next_from_global

abbrev next_from_type : List ℕ
next_from_type = 0x01 ∷ 0x05 ∷ next_type ++ next_from_function

abbrev next_sections : List Section
next_sections = record { id = 1; contents = next_type } ∷ record { id = 3; contents = next_function } ∷ record { id = 6; contents = next_global } ∷ record { id = 7; contents = next_export } ∷ record { id = 10; contents = next_code } ∷ []

next_follows : TakesEach TakesSection next_sections next_from_type []
next_follows = (_, record { after = _; id = refl; sized = record { mid = next_type ++ next_from_function; count = inl (omega arith, omega arith, refl, refl); items = refl } }, (_, record { after = _; id = refl; sized = record { mid = next_function ++ next_from_global; count = inl (omega arith, omega arith, refl, refl); items = refl } }, (_, record { after = _; id = refl; sized = record { mid = next_global ++ next_from_export; count = inl (omega arith, omega arith, refl, refl); items = refl } }, (_, record { after = _; id = refl; sized = record { mid = next_export ++ next_from_code; count = inl (omega arith, omega arith, refl, refl); items = refl } }, (_, record { after = _; id = refl; sized = record { mid = next_code ++ []; count = inl (omega arith, omega arith, refl, refl); items = refl } }, refl)))))

next_type_spelled : TakesVec TakesFuncType next_module.types next_type []
next_type_spelled = record { mid = _; count = inl (omega arith, omega arith, refl, refl); items = (_, record { after = _; mid = _; tag = refl; params = record { mid = _; count = inl (omega arith, omega arith, refl, refl); items = refl }; results = record { mid = _; count = inl (omega arith, omega arith, refl, refl); items = (_, refl, refl) } }, refl) }

next_function_spelled : TakesVec (TakesUnsigned 32) (map (λ (f : FunctionTree). f.type_index) next_module.functions) next_function []
next_function_spelled = record { mid = _; count = inl (omega arith, omega arith, refl, refl); items = (_, inl (omega arith, omega arith, refl, refl), refl) }

next_global_spelled : TakesVec (TakesGlobal One) next_module.globals next_global []
unfolding shape
next_global_spelled = record { mid = _; count = inl (omega arith, omega arith, refl, refl); items = (_, record { mid = _; global_type = refl; init = (_, record { opcode = 0x41; after = _; leads = refl; follows = (pos 0, refl, inl (omega arith, omega arith, refl, refl)) }, refl) }, refl) }

next_export_spelled : TakesVec TakesExport next_module.exports next_export []
unfolding lib.Utf8.encode
next_export_spelled = record { mid = _; count = inl (omega arith, omega arith, refl, refl); items = (_, record { mid = _; name = record { spelled = record { mid = _; count = inl (omega arith, omega arith, refl, refl); items = refl }; utf8 = (110 ∷ [], (refl, refl)) }; desc = (_, refl, inl (omega arith, omega arith, refl, refl)) }, refl) }

next_code_spelled : TakesVec (TakesSizedBody One) (map body_of next_module.functions) next_code []
unfolding shape
next_code_spelled = record { mid = _; count = inl (omega arith, omega arith, refl, refl); items = (_, record { contents = 0x00 ∷ 0x23 ∷ 0x00 ∷ 0x41 ∷ 0x01 ∷ 0x6A ∷ 0x24 ∷ 0x00 ∷ 0x23 ∷ 0x00 ∷ 0x0B ∷ []; sized = record { mid = _; count = inl (omega arith, omega arith, refl, refl); items = refl }; body = record { runs = []; mid = _; spelled = record { mid = _; count = inl (omega arith, omega arith, refl, refl); items = refl }; locals = refl; few = omega arith; code = (_, record { opcode = 0x23; after = _; leads = refl; follows = (0, refl, inl (omega arith, omega arith, refl, refl)) }, (_, record { opcode = 0x41; after = _; leads = refl; follows = (pos 1, refl, inl (omega arith, omega arith, refl, refl)) }, (_, record { opcode = 0x6A; after = _; leads = refl; follows = (refl, refl) }, (_, record { opcode = 0x24; after = _; leads = refl; follows = (0, refl, inl (omega arith, omega arith, refl, refl)) }, (_, record { opcode = 0x23; after = _; leads = refl; follows = (0, refl, inl (omega arith, omega arith, refl, refl)) }, refl))))) } }, refl) }

next_is_spelled : Spells One (0x00 ∷ 0x61 ∷ 0x73 ∷ 0x6D ∷ 0x01 ∷ 0x00 ∷ 0x00 ∷ 0x00 ∷ next_from_type) next_module
next_is_spelled = record {
  after = next_from_type;
  sections = next_sections;
  header = refl;
  whole = next_follows;
  ordered = inr (omega arith, omega arith, inr (omega arith, omega arith, inr (omega arith, omega arith, inr (omega arith, omega arith, inr (omega arith, omega arith, tt)))));
  fields = record {
    types = next_type_spelled;
    imports = refl;
    function_types = next_function_spelled;
    tables = refl;
    memories = refl;
    globals = next_global_spelled;
    exports = next_export_spelled;
    start = refl;
    element_segments = refl;
    bodies = next_code_spelled;
    data_segments = refl;
    data_count = tt;
  };
}
