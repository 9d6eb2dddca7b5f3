-- Words of commands beside near misses, each of which would fail if a definition were wrong.
use Rattle.std.specs.Prelude.{◌≡◌, true, false, [], ◌∷◌, codes, pos, negsuc, None, Some}
use Rattle.exact_field.specs.Rational.{whole, fraction}
use Rattle.commands.specs.Numbers.{number_of}
use Rattle.commands.specs.Paths.{files_of, problem_path, log_in_path, log_out_path}
use Rattle.commands.specs.Shapes.{shape_of}
use Rattle.commands.specs.Tasks.{shape}
use Rattle.commands.specs.Tasks.Task.{check, relog, solve, dual, sample, project, associate, meet, sum, join, map, weights, weigh, vertices, facets, reconv}
use Rattle.commands.specs.Tasks.Files.{none, one, two, logged}
use Rattle.commands.specs.Weights.{are_weights, AreWeightsOf}

-- words that write a number from 1 to a limit, and words that do not
pub record NumberExamples : Type 0 where
  pub least : number_of 1000 (codes "1") ≡ Some 1
  pub greatest : number_of 1000 (codes "1000") ≡ Some 1000
  pub greater : number_of 1000 (codes "1001") ≡ None
  pub nought : number_of 1000 (codes "0") ≡ None
  pub zero_in_front : number_of 19 (codes "01") ≡ None
  pub signed : number_of 19 (codes "+1") ≡ None
  pub negative : number_of 19 (codes "-1") ≡ None
  pub blank_after : number_of 19 (codes "1 ") ≡ None
  pub letter : number_of 19 (codes "x") ≡ None
  pub empty : number_of 19 [] ≡ None

-- words that write from 1 to 20 weights, and words that do not
pub record WeightExamples : Type 0 where
  pub one : are_weights (codes "1") ≡ true
  pub zero : are_weights (codes "0") ≡ true
  pub three : are_weights (codes "1/4,-3/4,12") ≡ true
  pub written : AreWeightsOf (codes "1/4,-3") (fraction (pos 1) 4 ∷ whole (negsuc 2) ∷ [])
  pub empty : are_weights [] ≡ false
  pub comma_alone : are_weights (codes ",") ≡ false
  pub comma_in_front : are_weights (codes ",1") ≡ false
  pub comma_at_end : are_weights (codes "1,") ≡ false
  pub two_commas : are_weights (codes "1,,1") ≡ false
  pub blank : are_weights (codes "1, 1") ≡ false
  pub zero_in_front : are_weights (codes "01") ≡ false
  pub signed : are_weights (codes "+1") ≡ false
  pub negative_zero : are_weights (codes "-0") ≡ false
  pub over_one : are_weights (codes "1/1") ≡ false
  pub over_zero : are_weights (codes "1/0") ≡ false
  pub not_lowest : are_weights (codes "2/4") ≡ false
  pub point : are_weights (codes "0.5") ≡ false
  pub later : are_weights (codes "1,1/1") ≡ false
  pub twenty : are_weights (codes "1,1,1,1,1,1,1,1,1,1,1,1,1,1,1,1,1,1,1,1") ≡ true
  pub more : are_weights (codes "1,1,1,1,1,1,1,1,1,1,1,1,1,1,1,1,1,1,1,1,1") ≡ false
  -- 2^120 - 1, 2^120, and the first over the second
  pub greatest : are_weights (codes "1329227995784915872903807060280344575") ≡ true
  pub wide : are_weights (codes "1329227995784915872903807060280344576") ≡ false
  pub wide_under : are_weights (codes "1/1329227995784915872903807060280344576") ≡ false

-- the shapes of the commands, with the files f and g
pub record ShapeExamples : Type 0 where
  pub check_files : shape_of (codes "check" ∷ codes "f" ∷ codes "g" ∷ [])
      ≡ Some (shape check (two (codes "f") (codes "g")))
  pub relog_files : shape_of (codes "relog" ∷ codes "f" ∷ codes "g" ∷ [])
      ≡ Some (shape relog (two (codes "f") (codes "g")))
  pub solve_file : shape_of (codes "solve" ∷ codes "f" ∷ []) ≡ Some (shape solve (one (codes "f")))
  pub solve_to_log : shape_of (codes "solve" ∷ codes "f" ∷ codes "g" ∷ [])
      ≡ Some (shape solve (logged (codes "f") (codes "g")))
  pub dual_file : shape_of (codes "dual" ∷ codes "f" ∷ []) ≡ Some (shape dual (one (codes "f")))
  pub dual_to_log : shape_of (codes "dual" ∷ codes "f" ∷ codes "g" ∷ [])
      ≡ Some (shape dual (logged (codes "f") (codes "g")))
  pub sample_number : shape_of (codes "sample" ∷ codes "1000" ∷ [])
      ≡ Some (shape (sample 1000) none)
  pub project_file : shape_of (codes "project" ∷ codes "f" ∷ codes "3" ∷ [])
      ≡ Some (shape (project 3) (one (codes "f")))
  pub project_to_log : shape_of (codes "project" ∷ codes "f" ∷ codes "19" ∷ codes "g" ∷ [])
      ≡ Some (shape (project 19) (logged (codes "f") (codes "g")))
  pub associate_file : shape_of (codes "associate" ∷ codes "f" ∷ codes "1" ∷ [])
      ≡ Some (shape (associate 1) (one (codes "f")))
  pub meet_files : shape_of (codes "meet" ∷ codes "f" ∷ codes "g" ∷ [])
      ≡ Some (shape meet (two (codes "f") (codes "g")))
  pub sum_files : shape_of (codes "sum" ∷ codes "f" ∷ codes "g" ∷ [])
      ≡ Some (shape sum (two (codes "f") (codes "g")))
  pub join_files : shape_of (codes "join" ∷ codes "f" ∷ codes "g" ∷ [])
      ≡ Some (shape join (two (codes "f") (codes "g")))
  pub map_file : shape_of (codes "map" ∷ codes "f" ∷ []) ≡ Some (shape map (one (codes "f")))
  pub weights_file : shape_of (codes "weights" ∷ codes "f" ∷ [])
      ≡ Some (shape weights (one (codes "f")))
  pub weigh_file : shape_of (codes "weigh" ∷ codes "f" ∷ codes "1/4,3/4" ∷ [])
      ≡ Some (shape (weigh (codes "1/4,3/4")) (one (codes "f")))
  pub vertices_file : shape_of (codes "vertices" ∷ codes "f" ∷ [])
      ≡ Some (shape vertices (one (codes "f")))
  pub vertices_to_log : shape_of (codes "vertices" ∷ codes "f" ∷ codes "g" ∷ [])
      ≡ Some (shape vertices (logged (codes "f") (codes "g")))
  pub facets_file : shape_of (codes "facets" ∷ codes "f" ∷ [])
      ≡ Some (shape facets (one (codes "f")))
  pub facets_to_log : shape_of (codes "facets" ∷ codes "f" ∷ codes "g" ∷ [])
      ≡ Some (shape facets (logged (codes "f") (codes "g")))
  pub reconv_files : shape_of (codes "reconv" ∷ codes "f" ∷ codes "g" ∷ [])
      ≡ Some (shape reconv (two (codes "f") (codes "g")))
  -- a file may have the name of a command
  pub named_so : shape_of (codes "solve" ∷ codes "solve" ∷ [])
      ≡ Some (shape solve (one (codes "solve")))

-- words without a shape
pub record NoShapeExamples : Type 0 where
  pub nothing : shape_of [] ≡ None
  pub no_file : shape_of (codes "solve" ∷ []) ≡ None
  pub unknown : shape_of (codes "help" ∷ codes "f" ∷ []) ≡ None
  pub capital : shape_of (codes "Solve" ∷ codes "f" ∷ []) ≡ None
  pub no_log : shape_of (codes "check" ∷ codes "f" ∷ []) ≡ None
  pub same_file : shape_of (codes "check" ∷ codes "f" ∷ codes "f" ∷ []) ≡ None
  pub relogged_alone : shape_of (codes "relog" ∷ codes "f" ∷ []) ≡ None
  pub relogged_as_itself : shape_of (codes "relog" ∷ codes "f" ∷ codes "f" ∷ []) ≡ None
  pub relog_many : shape_of (codes "relog" ∷ codes "f" ∷ codes "g" ∷ codes "h" ∷ []) ≡ None
  pub same_log : shape_of (codes "solve" ∷ codes "f" ∷ codes "f" ∷ []) ≡ None
  pub dual_nothing : shape_of (codes "dual" ∷ []) ≡ None
  pub dual_capital : shape_of (codes "Dual" ∷ codes "f" ∷ []) ≡ None
  pub same_dual_log : shape_of (codes "dual" ∷ codes "f" ∷ codes "f" ∷ []) ≡ None
  pub dual_many : shape_of (codes "dual" ∷ codes "f" ∷ codes "g" ∷ codes "h" ∷ []) ≡ None
  pub same_vertices_log : shape_of (codes "vertices" ∷ codes "f" ∷ codes "f" ∷ []) ≡ None
  pub vertices_many : shape_of (codes "vertices" ∷ codes "f" ∷ codes "g" ∷ codes "h" ∷ []) ≡ None
  pub facets_nothing : shape_of (codes "facets" ∷ []) ≡ None
  pub one_facet : shape_of (codes "facet" ∷ codes "f" ∷ []) ≡ None
  pub same_facets_log : shape_of (codes "facets" ∷ codes "f" ∷ codes "f" ∷ []) ≡ None
  pub reconv_alone : shape_of (codes "reconv" ∷ codes "f" ∷ []) ≡ None
  pub reconv_itself : shape_of (codes "reconv" ∷ codes "f" ∷ codes "f" ∷ []) ≡ None
  pub met_with_itself : shape_of (codes "meet" ∷ codes "a" ∷ codes "a" ∷ []) ≡ None
  pub one_file : shape_of (codes "join" ∷ codes "f" ∷ []) ≡ None
  pub two_files : shape_of (codes "map" ∷ codes "f" ∷ codes "g" ∷ []) ≡ None
  pub solve_many : shape_of (codes "solve" ∷ codes "f" ∷ codes "g" ∷ codes "h" ∷ []) ≡ None
  pub sample_file : shape_of (codes "sample" ∷ codes "1" ∷ codes "f" ∷ []) ≡ None
  pub sample_many : shape_of (codes "sample" ∷ codes "1001" ∷ []) ≡ None
  pub no_columns : shape_of (codes "project" ∷ codes "f" ∷ []) ≡ None
  pub zero_columns : shape_of (codes "project" ∷ codes "f" ∷ codes "0" ∷ []) ≡ None
  pub many_columns : shape_of (codes "project" ∷ codes "f" ∷ codes "20" ∷ []) ≡ None
  pub zero_in_front : shape_of (codes "project" ∷ codes "f" ∷ codes "01" ∷ []) ≡ None
  pub same_project_log : shape_of (codes "project" ∷ codes "f" ∷ codes "3" ∷ codes "f" ∷ []) ≡ None
  pub many_columns_log : shape_of (codes "project" ∷ codes "f" ∷ codes "20" ∷ codes "g" ∷ []) ≡ None
  pub associate_log : shape_of (codes "associate" ∷ codes "f" ∷ codes "3" ∷ codes "g" ∷ []) ≡ None
  pub project_many : shape_of (codes "project" ∷ codes "f" ∷ codes "3" ∷ codes "g" ∷ codes "h" ∷ []) ≡ None
  pub weigh_nothing : shape_of (codes "weigh" ∷ codes "f" ∷ []) ≡ None
  pub weigh_empty : shape_of (codes "weigh" ∷ codes "f" ∷ [] ∷ []) ≡ None
  pub weigh_comma : shape_of (codes "weigh" ∷ codes "f" ∷ codes "1," ∷ []) ≡ None

-- the files that are opened
pub record PathExamples : Type 0 where
  pub read_too : log_in_path (files_of (shape_of (codes "check" ∷ codes "f" ∷ codes "g" ∷ [])))
      ≡ Some (codes "g")
  pub not_written : log_out_path (files_of (shape_of (codes "check" ∷ codes "f" ∷ codes "g" ∷ []))) ≡ None
  pub relog_reads : log_in_path (files_of (shape_of (codes "relog" ∷ codes "f" ∷ codes "g" ∷ [])))
      ≡ Some (codes "g")
  pub relog_writes_none : log_out_path (files_of (shape_of (codes "relog" ∷ codes "f" ∷ codes "g" ∷ [])))
      ≡ None
  pub written : log_out_path (files_of (shape_of (codes "solve" ∷ codes "f" ∷ codes "g" ∷ [])))
      ≡ Some (codes "g")
  pub dual_written : log_out_path (files_of (shape_of (codes "dual" ∷ codes "f" ∷ codes "g" ∷ [])))
      ≡ Some (codes "g")
  pub vertices_written : log_out_path (files_of (shape_of (codes "vertices" ∷ codes "f" ∷ codes "g" ∷ [])))
      ≡ Some (codes "g")
  pub reconv_reads : log_in_path (files_of (shape_of (codes "reconv" ∷ codes "f" ∷ codes "g" ∷ [])))
      ≡ Some (codes "g")
  pub not_read : log_in_path (files_of (shape_of (codes "solve" ∷ codes "f" ∷ codes "g" ∷ []))) ≡ None
  pub second : log_in_path (files_of (shape_of (codes "sum" ∷ codes "f" ∷ codes "g" ∷ [])))
      ≡ Some (codes "g")
  pub first : problem_path (files_of (shape_of (codes "sum" ∷ codes "f" ∷ codes "g" ∷ [])))
      ≡ Some (codes "f")
  pub no_file : problem_path (files_of (shape_of (codes "sample" ∷ codes "7" ∷ []))) ≡ None
  pub no_shape : problem_path (files_of (shape_of (codes "meet" ∷ codes "f" ∷ codes "f" ∷ []))) ≡ None

-- all of these
pub record Examples : Type 0 where
  pub numbers : NumberExamples
  pub weights : WeightExamples
  pub shapes : ShapeExamples
  pub no_shapes : NoShapeExamples
  pub paths : PathExamples
