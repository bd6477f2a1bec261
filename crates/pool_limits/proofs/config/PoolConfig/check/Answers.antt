use Rattle.std.proofs.Common.{◌≡◌, ◌≤◌, ◌<◌, ◌^◌, ℕ, length, arith, rules, sym, ap, ◌∙◌}
use Rattle.std.proofs.lemmas.List.{length-map}
use Rattle.std.proofs.lemmas.Result.{on_ok_weaker, MatchResult-weaker}
use Rattle.wasm_types.specs.Tree.{function_tree, module_tree}
use Rattle.wasm_spec.specs.Need.{need}
use Rattle.wasm_spec.specs.Store.{minimum_of}
use Rattle.pool_limits.specs.Limits.{first_frame_over}
use Rattle.pool_limits.proofs.LimitLemmas.{first_over-frames}
use Rattle.pool_limits.proofs.config.PoolConfig.check.Goals as goal

pub returns-clause-ok : goal.returns-clause-ok
returns-clause-ok c =
    let pages : minimum_of c.args.valid.now.memories ≤ c.args.self.now.pages = search rules in
    let elements : minimum_of c.args.valid.now.tables ≤ c.args.self.now.elements = search rules in
    let globals : length c.args.valid.now.globals ≤ 1024 = search rules in
    let frame : c.numbers-numbers.result.frame ≡ c.args.self.now.frame = search rules in
    let first : c.len-imported.result ≡ length c.args.valid.now.imports = search rules in
    let same = first_over-frames c.args.self.now c.args.valid.now c.frame_needs.result.now c.numbers-numbers.result.frame c.frame_needs.ensures frame pages elements globals in
    on_ok_weaker c.frames_within.result (λ none. same ∙ ap (λ (k : ℕ). first_frame_over k c.numbers-numbers.result.frame c.frame_needs.result.now) (sym first) ∙ none) c.frames_within.ensures.ok

pub returns-clause-over : goal.returns-clause-over
returns-clause-over c =
    let pages : minimum_of c.args.valid.now.memories ≤ c.args.self.now.pages = search rules in
    let elements : minimum_of c.args.valid.now.tables ≤ c.args.self.now.elements = search rules in
    let globals : length c.args.valid.now.globals ≤ 1024 = search rules in
    let frame : c.numbers-numbers.result.frame ≡ c.args.self.now.frame = search rules in
    let first : c.len-imported.result ≡ length c.args.valid.now.imports = search rules in
    let same = first_over-frames c.args.self.now c.args.valid.now c.frame_needs.result.now c.numbers-numbers.result.frame c.frame_needs.ensures frame pages elements globals in
    MatchResult-weaker c.frames_within.result c.frames_within.ensures.over (λ x always. tt) (λ o over. same ∙ ap (λ (k : ℕ). first_frame_over k c.numbers-numbers.result.frame c.frame_needs.result.now) (sym first) ∙ over)

pub frames_within-requires : goal.frames_within-requires
frames_within-requires c =
    let first : c.len-imported.result ≡ length c.args.valid.now.imports = search rules in
    let few : length c.args.valid.now.imports < 2 ^ 63 = search rules in
    let functions : length c.args.valid.now.functions < 2 ^ 63 = search rules in
    let trees : length (module_tree c.args.valid.now).functions ≡ length c.args.valid.now.functions = length-map c.args.valid.now.functions function_tree in
    let needs : length c.frame_needs.result.now ≡ length (module_tree c.args.valid.now).functions =
    ap length c.frame_needs.ensures ∙ length-map (module_tree c.args.valid.now).functions (need (module_tree c.args.valid.now)) in
    omega arith
