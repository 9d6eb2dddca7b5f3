use Rattle.std.proofs.Common.{◌≡◌, ◌∙◌, ◌+◌, ap, sym, subst, ℕ, List, length, arith, slice_index_or}
use Rattle.std.proofs.lemmas.List.{length_push}
use Rattle.tableaux.specs.Table.{first_cost, right_column, row_of, second_cost, table_of}
use Rattle.polyhedra.specs.Sparse.{Entry}
use Rattle.lin_rows.specs.Lines.{entries}
use Rattle.lin_rows.specs.Read.{IsLineOf}
use Rattle.lin_rows.proofs.Building.{each_more, none_more}
use Rattle.lin_rows.specs.System.{system_of}
use Rattle.exact_simplex.proofs.Programs.{equation_count_is}
use Rattle.exact_simplex.proofs.Tabled.{unopened_is, unopened_rows}
use Rattle.exact_simplex.proofs.opening.build_table.Goals as goal

pub loop-i-preserved : goal.loop-i-preserved
loop-i-preserved g c =
    let value = g.F.Field.value in
    let s = system_of value c.args.system.now in
    let i = c.loop-i.i in
    let kept = c.loop-i.invariant in
    record {
      long = ap length c.in_ok-push.ensures.items ∙ length_push c.loop-i.rows.items c.in_ok-equation_line.field-0 ∙ ap (λ n. n + 1) kept.long;
      one_each = ap length c.in_ok-push-2.ensures.items ∙ length_push c.loop-i.basis.items 0 ∙ ap (λ n. n + 1) kept.one_each;
      none = λ k. ap (λ b. slice_index_or b k 0) c.in_ok-push-2.ensures.items ∙ none_more c.loop-i.basis.items kept.none k;
      each = each_more value (λ k es. IsLineOf (right_column s) (row_of (table_of s) (k + 1)) es) c.loop-i.rows.items c.push.new.self.items c.in_ok-equation_line.field-0 i
          c.in_ok-push.ensures.items kept.long kept.each c.in_ok-equation_line.ensures;
    }

pub new-requires : goal.new-requires
new-requires g c =
    let value = g.F.Field.value in
    let p = c.args.system.now in
    let s = system_of value p in
    let kept = c.loop-i.invariant in
    let first = c.in_ok-first_cost_line.field-0 in
    let second = c.in_ok-second_cost_line.field-0 in
    let m : ℕ = c.loop-i.i in
    let end : m ≡ p.rows = omega arith in
    let P : ℕ → List Entry → Type 0 = λ k es. IsLineOf (right_column s) (row_of (table_of s) (k + 1)) es in
    let long : length c.push-2.new.self.items ≡ m + 1 = ap length c.in_ok-push-3.ensures.items ∙ length_push c.loop-i.rows.items first ∙ ap (λ n. n + 1) kept.long in
    let long_end : length c.push-4.new.self.items ≡ m + 1 + 1 = ap length c.in_ok-push-5.ensures.items ∙ length_push c.push-2.new.self.items second ∙ ap (λ n. n + 1) long in
    let basis : length c.push-5.new.self.items ≡ m + 1 + 1 =
    ap length c.in_ok-push-6.ensures.items ∙ length_push c.push-3.new.self.items 0
    ∙ ap (λ n. n + 1) (ap length c.in_ok-push-4.ensures.items ∙ length_push c.loop-i.basis.items 0 ∙ ap (λ n. n + 1) kept.one_each) in
    let count = equation_count_is value p c.requires in
    let first_at : m + 1 ≡ first_cost s = omega (arith, end, count) in
    let second_at : m + 1 + 1 ≡ second_cost s = omega (arith, end, count) in
    let with_first = each_more value P c.loop-i.rows.items c.push-2.new.self.items first m c.in_ok-push-3.ensures.items kept.long kept.each
    (subst (λ (k : ℕ). IsLineOf (right_column s) (row_of (table_of s) k) (entries value first.items)) (sym first_at) c.in_ok-first_cost_line.ensures) in
    let with_second = each_more value P c.push-2.new.self.items c.push-4.new.self.items second (m + 1) c.in_ok-push-5.ensures.items long with_first
    (subst (λ (k : ℕ). IsLineOf (right_column s) (row_of (table_of s) k) (entries value second.items)) (sym second_at) c.in_ok-second_cost_line.ensures) in
    let none_first : (k : ℕ) → slice_index_or c.push-3.new.self.items k 0 ≡ 0 = λ k. ap (λ b. slice_index_or b k 0) c.in_ok-push-4.ensures.items ∙ none_more c.loop-i.basis.items kept.none k in
    let none : (k : ℕ) → slice_index_or c.push-5.new.self.items k 0 ≡ 0 = λ k. ap (λ b. slice_index_or b k 0) c.in_ok-push-6.ensures.items ∙ none_more c.push-3.new.self.items none_first k in
    unopened_rows value p c.requires c.push-4.new.self.items c.push-5.new.self.items (omega (arith, long_end, end)) (omega (arith, basis, end)) (omega arith) none (λ k l. with_second k (omega (arith, l, end)))

pub returns : goal.returns
returns g c =
    let value = g.F.Field.value in
    let p = c.args.system.now in
    let s = system_of value p in
    let kept = c.loop-i.invariant in
    let first = c.in_ok-first_cost_line.field-0 in
    let second = c.in_ok-second_cost_line.field-0 in
    let m : ℕ = c.loop-i.i in
    let end : m ≡ p.rows = omega arith in
    let P : ℕ → List Entry → Type 0 = λ k es. IsLineOf (right_column s) (row_of (table_of s) (k + 1)) es in
    let long : length c.push-2.new.self.items ≡ m + 1 = ap length c.in_ok-push-3.ensures.items ∙ length_push c.loop-i.rows.items first ∙ ap (λ n. n + 1) kept.long in
    let long_end : length c.push-4.new.self.items ≡ m + 1 + 1 = ap length c.in_ok-push-5.ensures.items ∙ length_push c.push-2.new.self.items second ∙ ap (λ n. n + 1) long in
    let basis : length c.push-5.new.self.items ≡ m + 1 + 1 =
    ap length c.in_ok-push-6.ensures.items ∙ length_push c.push-3.new.self.items 0
    ∙ ap (λ n. n + 1) (ap length c.in_ok-push-4.ensures.items ∙ length_push c.loop-i.basis.items 0 ∙ ap (λ n. n + 1) kept.one_each) in
    let count = equation_count_is value p c.requires in
    let first_at : m + 1 ≡ first_cost s = omega (arith, end, count) in
    let second_at : m + 1 + 1 ≡ second_cost s = omega (arith, end, count) in
    let with_first = each_more value P c.loop-i.rows.items c.push-2.new.self.items first m c.in_ok-push-3.ensures.items kept.long kept.each
    (subst (λ (k : ℕ). IsLineOf (right_column s) (row_of (table_of s) k) (entries value first.items)) (sym first_at) c.in_ok-first_cost_line.ensures) in
    let with_second = each_more value P c.push-2.new.self.items c.push-4.new.self.items second (m + 1) c.in_ok-push-5.ensures.items long with_first
    (subst (λ (k : ℕ). IsLineOf (right_column s) (row_of (table_of s) k) (entries value second.items)) (sym second_at) c.in_ok-second_cost_line.ensures) in
    let none_first : (k : ℕ) → slice_index_or c.push-3.new.self.items k 0 ≡ 0 = λ k. ap (λ b. slice_index_or b k 0) c.in_ok-push-4.ensures.items ∙ none_more c.loop-i.basis.items kept.none k in
    let none : (k : ℕ) → slice_index_or c.push-5.new.self.items k 0 ≡ 0 = λ k. ap (λ b. slice_index_or b k 0) c.in_ok-push-6.ensures.items ∙ none_more c.push-3.new.self.items none_first k in
    unopened_is value p c.requires c.push-4.new.self.items c.push-5.new.self.items (omega (arith, long_end, end)) (omega (arith, basis, end)) (omega arith) none (λ k l. with_second k (omega (arith, l, end)))
    c.new.result c.new.ensures.is
