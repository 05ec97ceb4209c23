-- Processes written part by part.
use Rattle.std.proofs.Common.{◌≡◌, ℕ, suc, ◌+◌, ◌-◌, ◌<◌, ◌≤◌, List, [], ◌∷◌, ◌++◌, length, take, refl, ap, sym, ◌∙◌, arith, subst}
use Rattle.dps_terms.specs.Tree.{Tree, app, trees, var, node_count}
use Rattle.dps_process.specs.Process as process
use Rattle.dps_process.specs.Process.{Process, size, process_nodes}
use Rattle.dps_terms.specs.declared.Sym.{Sym}
use Rattle.dps_scopes.specs.declared.body.Channel.{Channel}
use Rattle.dps_scopes.specs.declared.body.Step.{Step}
use Rattle.dps_scopes.specs.declared.body.Step.TheVariants.{Project, Test}
use Rattle.dps_scopes.specs.Body.{Body, bodies, nil, input, output, conditional, bind}
use Rattle.dps_names.specs.Program.{Written}
use Rattle.dps_elab.specs.Expansion.{Value, Numbers, Expansion, made, value_at, value_of, channel_in, one_variable, beside, taken_apart, and_copies, expansion_of}
use Rattle.dps_elab.specs.Locals.{locals_from}
use Rattle.dps_elab.specs.Turns.{written_in, joined, chain_of}
use Rattle.dps_elab.specs.Writing.{numbers_of, IsAdded, IsWritten, IsTermWritten, IsChannelAdded, IsVariablePushed, IsNodeTaken, IsTooLargeTerm, IsTooLargeSide, taken_apart_in}
use Rattle.dps_elab.specs.declared.local.Local.{Local}
use Rattle.dps_elab.specs.declared.settle.Join.{Join}
use Rattle.dps_elab.specs.declared.settle.Join.TheVariants.{ByParallel, ByChoice}
use Rattle.dps_elab.specs.declared.settle.Scope.{Scope}
use Rattle.dps_elab.specs.declared.writer.Writer.{Writer}
use Rattle.std.proofs.lemmas.List.{append-nil}
use Rattle.dps_elab.proofs.Behind.{added_on, recast, body_at, large_body_at, term_at, large_term_at, fits_at, large_fits_at, two_written}
use Rattle.dps_elab.proofs.Behind.{large_behind, large_term_behind, joined_size, joined_height, pushed_number, pushed_locals, pushed_outside, pushed_whole, pushed_numbers}

module _ (scope : Scope) (w0 w1 : Writer) (depth below : ℕ) (node : IsNodeTaken w0 w1 depth below) where
  abbrev names : List ℕ
  names = scope.private_names.now

  abbrev before : List Local
  before = w0.stack.items

  abbrev locals : List Value
  locals = locals_from scope.first before

  abbrev next : Numbers
  next = numbers_of w0

  abbrev here : Body → Expansion
  here p = written_in scope before p next

  -- `out(c,u); p`
  module _ (c : Channel) (u : Written) (p : Body) (w2 : Writer) (number : ℕ) (named : IsChannelAdded w1 w2 (channel_in names (locals_from scope.first w1.stack.items) c) number) where
    abbrev channel : IsChannelAdded w1 w2 (channel_in names locals c) number
    channel = let P : List Local → Type 0 = λ x. IsChannelAdded w1 w2 (channel_in names (locals_from scope.first x) c) number in subst P node.stack named

    pub output_large_sent : IsTooLargeTerm w2.nodes_left below (value_of (locals_from scope.first w2.stack.items) u).tree → IsTooLargeSide w0.nodes_left depth (here (output c u p)).process
    output_large_sent h =
        large_term_behind depth below (value_of locals u).tree (here (output c u p)).process (added_on node.added channel.added) node.deeper
        (large_term_at scope.first w2 below u before h (named.stack ∙ node.stack)) (omega arith) (omega arith)

    module _ (w3 : Writer) (t : Tree) (sent : IsTermWritten w2 w3 below (value_of (locals_from scope.first w2.stack.items) u) t) where
      abbrev sent_here : IsTermWritten w2 w3 below (value_of locals u) t
      sent_here = term_at scope.first w2 w3 below u t before sent (named.stack ∙ node.stack)

      pub output_large_next : IsTooLargeSide w3.nodes_left below (written_in scope w3.stack.items p (numbers_of w3)).process → IsTooLargeSide w0.nodes_left depth (here (output c u p)).process
      output_large_next h =
          large_behind depth below (here p).process (here (output c u p)).process (added_on (added_on node.added channel.added) sent_here.added) node.deeper
          (large_body_at scope w3 below p before next h (sent.stack ∙ named.stack ∙ node.stack) (sent.added.numbers ∙ named.added.numbers ∙ node.added.numbers))
          (omega arith) (omega arith)

      pub output_written :
          (w4 : Writer) (q r : Process) → IsWritten w3 w4 below w3.stack.items (written_in scope w3.stack.items p (numbers_of w3)) q
          → r ≡ process.output number t q → IsWritten w0 w4 depth before (here (output c u p)) r
      output_written w4 q r h e =
          let k = body_at scope w3 w4 below p q before next h (sent.stack ∙ named.stack ∙ node.stack) (sent.added.numbers ∙ named.added.numbers ∙ node.added.numbers) in
          record {
            same = e ∙ (λ i. process.output (channel.number_is i) (sent_here.same i) (k.same i));
            stack = k.stack;
            added = recast (added_on (added_on (added_on node.added channel.added) sent_here.added) k.added) refl (omega arith);
            low = omega (arith, node.deeper, sent_here.low, k.low);
          }

  -- `in(c,pattern); p`
  module _ (c : Channel) (steps : List Step) (p : Body) (w2 : Writer) (number : ℕ) (named : IsChannelAdded w1 w2 (channel_in names (locals_from scope.first w1.stack.items) c) number)
      (w3 : Writer) (v outside : ℕ) (pushed : IsVariablePushed w2 w3 v) (h : scope.first ≤ length before) (o : outside ≡ length w2.stack.items) where
    abbrev heard : IsChannelAdded w1 w2 (channel_in names locals c) number
    heard = let P : List Local → Type 0 = λ x. IsChannelAdded w1 w2 (channel_in names (locals_from scope.first x) c) number in subst P node.stack named

    abbrev fitting : Expansion
    fitting = taken_apart names steps (locals ++ made (var next.variable) ∷ []) (expansion_of names scope.definitions.now p) (written_in scope before nil) (one_variable next)

    pub input_large_fits :
        IsTooLargeSide w3.nodes_left below (taken_apart_in scope w3.stack.items steps p nil (take outside w3.stack.items) (numbers_of w3)).process
        → IsTooLargeSide w0.nodes_left depth (here (input c steps p)).process
    input_large_fits k =
        large_behind depth below fitting.process (here (input c steps p)).process (added_on (added_on node.added heard.added) pushed.added) node.deeper
        (large_fits_at scope w3 below steps p nil outside (locals ++ made (var next.variable) ∷ []) before (one_variable next) k
        (pushed_locals scope.first w2 w3 before next v h pushed (named.stack ∙ node.stack) (named.added.numbers ∙ node.added.numbers))
        (pushed_whole w2 w3 before v outside o pushed (named.stack ∙ node.stack))
        (pushed_numbers w2 w3 next v pushed (named.added.numbers ∙ node.added.numbers)))
        (omega arith) (omega arith)

    pub input_written :
        (w4 : Writer) (f r : Process)
        → IsWritten w3 w4 below (take outside w3.stack.items) (taken_apart_in scope w3.stack.items steps p nil (take outside w3.stack.items) (numbers_of w3)) f
        → r ≡ process.input number v f → IsWritten w0 w4 depth before (here (input c steps p)) r
    input_written w4 f r k e =
        let fits = fits_at scope w3 w4 below steps p nil f outside (locals ++ made (var next.variable) ∷ []) before (one_variable next) k
        (pushed_locals scope.first w2 w3 before next v h pushed (named.stack ∙ node.stack) (named.added.numbers ∙ node.added.numbers))
        (pushed_whole w2 w3 before v outside o pushed (named.stack ∙ node.stack))
        (pushed_numbers w2 w3 next v pushed (named.added.numbers ∙ node.added.numbers)) in
        record {
          same = e ∙ (λ i. process.input (heard.number_is i) (pushed_number w2 w3 next v pushed (named.added.numbers ∙ node.added.numbers) i) (fits.same i));
          stack = fits.stack;
          added = recast (added_on (added_on (added_on node.added heard.added) pushed.added) fits.added) refl (omega arith);
          low = omega (arith, node.deeper, fits.low);
        }

  -- `if u = v then p else q`
  module _ (u v : Written) (p q : Body) where
    pub conditional_large_first : IsTooLargeTerm w1.nodes_left below (value_of (locals_from scope.first w1.stack.items) u).tree → IsTooLargeSide w0.nodes_left depth (here (conditional u v p q)).process
    conditional_large_first h =
        large_term_behind depth below (value_of locals u).tree (here (conditional u v p q)).process node.added node.deeper (large_term_at scope.first w1 below u before h node.stack)
        (omega arith) (omega arith)

    module _ (w2 : Writer) (t : Tree) (first : IsTermWritten w1 w2 below (value_of (locals_from scope.first w1.stack.items) u) t) where
      abbrev first_here : IsTermWritten w1 w2 below (value_of locals u) t
      first_here = term_at scope.first w1 w2 below u t before first node.stack

      pub conditional_large_second : IsTooLargeTerm w2.nodes_left below (value_of (locals_from scope.first w2.stack.items) v).tree → IsTooLargeSide w0.nodes_left depth (here (conditional u v p q)).process
      conditional_large_second h =
          large_term_behind depth below (value_of locals v).tree (here (conditional u v p q)).process (added_on node.added first_here.added) node.deeper
          (large_term_at scope.first w2 below v before h (first.stack ∙ node.stack)) (omega arith) (omega arith)

      module _ (w3 : Writer) (r : Tree) (second : IsTermWritten w2 w3 below (value_of (locals_from scope.first w2.stack.items) v) r) where
        abbrev second_here : IsTermWritten w2 w3 below (value_of locals v) r
        second_here = term_at scope.first w2 w3 below v r before second (first.stack ∙ node.stack)

        pub conditional_large_then : IsTooLargeSide w3.nodes_left below (written_in scope w3.stack.items p (numbers_of w3)).process → IsTooLargeSide w0.nodes_left depth (here (conditional u v p q)).process
        conditional_large_then h =
            large_behind depth below (here p).process (here (conditional u v p q)).process (added_on (added_on node.added first_here.added) second_here.added) node.deeper
            (large_body_at scope w3 below p before next h (second.stack ∙ first.stack ∙ node.stack) (second.added.numbers ∙ first.added.numbers ∙ node.added.numbers))
            (omega arith) (omega arith)

        module _ (w4 : Writer) (f : Process) (fits : IsWritten w3 w4 below w3.stack.items (written_in scope w3.stack.items p (numbers_of w3)) f) where
          abbrev fits_here : IsWritten w3 w4 below before (here p) f
          fits_here = body_at scope w3 w4 below p f before next fits (second.stack ∙ first.stack ∙ node.stack) (second.added.numbers ∙ first.added.numbers ∙ node.added.numbers)

          pub conditional_large_else : IsTooLargeSide w4.nodes_left below (written_in scope w4.stack.items q (numbers_of w4)).process → IsTooLargeSide w0.nodes_left depth (here (conditional u v p q)).process
          conditional_large_else h =
              large_behind depth below (written_in scope before q (here p).next).process (here (conditional u v p q)).process
              (added_on (added_on (added_on node.added first_here.added) second_here.added) fits_here.added) node.deeper
              (large_body_at scope w4 below q before (here p).next h fits_here.stack fits_here.added.numbers)
              (omega arith) (omega arith)

          pub conditional_written :
              (w5 : Writer) (o x : Process) → IsWritten w4 w5 below w4.stack.items (written_in scope w4.stack.items q (numbers_of w4)) o
              → x ≡ process.conditional t r f o → IsWritten w0 w5 depth before (here (conditional u v p q)) x
          conditional_written w5 o x h e =
              let other = body_at scope w4 w5 below q o before (here p).next h fits_here.stack fits_here.added.numbers in
              two_written depth (process.conditional (value_of locals u).tree (value_of locals v).tree) (here p) (written_in scope before q) x
              (added_on (added_on node.added first_here.added) second_here.added) fits_here other
              (e ∙ (λ i. process.conditional (first_here.same i) (second_here.same i) f o))
              (omega arith) (omega (arith, node.deeper, first_here.low, second_here.low, fits_here.low, other.low))

  -- `let pattern = u in p else q`
  module _ (u : Written) (steps : List Step) (p q : Body) where
    pub bind_large_value : IsTooLargeTerm w1.nodes_left below (value_of (locals_from scope.first w1.stack.items) u).tree → IsTooLargeSide w0.nodes_left depth (here (bind u steps p q)).process
    bind_large_value h =
        large_term_behind depth below (value_of locals u).tree (here (bind u steps p q)).process node.added node.deeper (large_term_at scope.first w1 below u before h node.stack) (omega arith)
        (omega arith)

    module _ (w2 : Writer) (t : Tree) (value : IsTermWritten w1 w2 below (value_of (locals_from scope.first w1.stack.items) u) t) (w3 : Writer) (v outside : ℕ)
        (pushed : IsVariablePushed w2 w3 v) (h : scope.first ≤ length before) (o : outside ≡ length w2.stack.items) where
      abbrev value_here : IsTermWritten w1 w2 below (value_of locals u) t
      value_here = term_at scope.first w1 w2 below u t before value node.stack

      abbrev matching : Expansion
      matching = taken_apart names steps (locals ++ made (var next.variable) ∷ []) (expansion_of names scope.definitions.now p) (written_in scope before q) (one_variable next)

      abbrev in_front : IsAdded w0 w3 [] (value_of locals u).privates (one_variable (numbers_of w2)) (1 + node_count (value_of locals u).tree)
      in_front = recast (added_on (added_on node.added value_here.added) pushed.added) (append-nil (value_of locals u).privates) (omega arith)

      pub bind_large_fits :
          IsTooLargeSide w3.nodes_left below (taken_apart_in scope w3.stack.items steps p q (take outside w3.stack.items) (numbers_of w3)).process
          → IsTooLargeSide w0.nodes_left depth (here (bind u steps p q)).process
      bind_large_fits k =
          large_behind depth below matching.process (here (bind u steps p q)).process in_front node.deeper
          (large_fits_at scope w3 below steps p q outside (locals ++ made (var next.variable) ∷ []) before (one_variable next) k
          (pushed_locals scope.first w2 w3 before next v h pushed (value.stack ∙ node.stack) (value.added.numbers ∙ node.added.numbers))
          (pushed_whole w2 w3 before v outside o pushed (value.stack ∙ node.stack))
          (pushed_numbers w2 w3 next v pushed (value.added.numbers ∙ node.added.numbers)))
          (omega arith) (omega arith)

      module _ (w4 : Writer) (f : Process)
          (fits : IsWritten w3 w4 below (take outside w3.stack.items) (taken_apart_in scope w3.stack.items steps p q (take outside w3.stack.items) (numbers_of w3)) f) where
        abbrev match_here : IsWritten w3 w4 below before matching f
        match_here = fits_at scope w3 w4 below steps p q f outside (locals ++ made (var next.variable) ∷ []) before (one_variable next) fits
            (pushed_locals scope.first w2 w3 before next v h pushed (value.stack ∙ node.stack) (value.added.numbers ∙ node.added.numbers))
            (pushed_whole w2 w3 before v outside o pushed (value.stack ∙ node.stack))
            (pushed_numbers w2 w3 next v pushed (value.added.numbers ∙ node.added.numbers))

        pub bind_large_unfit : IsTooLargeSide w4.nodes_left below (written_in scope w4.stack.items q (numbers_of w4)).process → IsTooLargeSide w0.nodes_left depth (here (bind u steps p q)).process
        bind_large_unfit k =
            large_behind depth below (written_in scope before q matching.next).process (here (bind u steps p q)).process (added_on in_front match_here.added) node.deeper
            (large_body_at scope w4 below q before matching.next k match_here.stack match_here.added.numbers)
            (omega arith) (omega arith)

        pub bind_written :
            (w5 : Writer) (r x : Process) → IsWritten w4 w5 below w4.stack.items (written_in scope w4.stack.items q (numbers_of w4)) r
            → x ≡ process.bind v t f r → IsWritten w0 w5 depth before (here (bind u steps p q)) x
        bind_written w5 r x k e =
            let other = body_at scope w4 w5 below q r before matching.next k match_here.stack match_here.added.numbers in
            two_written depth (process.bind next.variable (value_of locals u).tree) matching (written_in scope before q) x
            in_front match_here other
            (e ∙ (λ i. process.bind (pushed_number w2 w3 next v pushed (value.added.numbers ∙ node.added.numbers) i) (value_here.same i) f r))
            (omega arith) (omega (arith, node.deeper, value_here.low, match_here.low, other.low))

  -- a step that projects
  module _ (g : Sym) (j : ℕ) (steps : List Step) (p q : Body) (outside : ℕ) (h : scope.first ≤ outside) (o : outside ≤ length before)
      (w2 : Writer) (t : Tree) (value : IsTermWritten w1 w2 below (record { tree = app g (trees ((value_at (locals_from scope.first w1.stack.items) j).tree ∷ [])); privates = [] }) t)
      (w3 : Writer) (v : ℕ) (pushed : IsVariablePushed w2 w3 v) where
    abbrev projected : Tree
    projected = app g (trees ((value_at locals j).tree ∷ []))

    abbrev projected_here : IsTermWritten w1 w2 below (record { tree = projected; privates = [] }) t
    projected_here =
        let P : List Local → Type 0 = λ x. IsTermWritten w1 w2 below (record { tree = app g (trees ((value_at (locals_from scope.first x) j).tree ∷ [])); privates = [] }) t in
        subst P node.stack value

    abbrev behind_projection : Expansion
    behind_projection = taken_apart names steps (locals ++ made (var next.variable) ∷ []) (expansion_of names scope.definitions.now p) (written_in scope (take outside before) q) (one_variable next)

    abbrev all_projected : Expansion
    all_projected = taken_apart_in scope before (Project g j ∷ steps) p q (take outside before) next

    abbrev before_projection : IsAdded w0 w3 [] [] (one_variable (numbers_of w2)) (1 + node_count projected)
    before_projection = recast (added_on (added_on node.added projected_here.added) pushed.added) refl (omega arith)

    pub project_large_fits :
        IsTooLargeSide w3.nodes_left below (taken_apart_in scope w3.stack.items steps p q (take outside w3.stack.items) (numbers_of w3)).process
        → IsTooLargeSide w0.nodes_left depth all_projected.process
    project_large_fits k =
        large_behind depth below behind_projection.process all_projected.process before_projection node.deeper
        (large_fits_at scope w3 below steps p q outside (locals ++ made (var next.variable) ∷ []) (take outside before) (one_variable next) k
        (pushed_locals scope.first w2 w3 before next v (omega arith) pushed (value.stack ∙ node.stack) (value.added.numbers ∙ node.added.numbers))
        (pushed_outside w2 w3 before v outside o pushed (value.stack ∙ node.stack))
        (pushed_numbers w2 w3 next v pushed (value.added.numbers ∙ node.added.numbers)))
        (omega arith) (omega arith)

    module _ (w4 : Writer) (f : Process)
        (fits : IsWritten w3 w4 below (take outside w3.stack.items) (taken_apart_in scope w3.stack.items steps p q (take outside w3.stack.items) (numbers_of w3)) f) where
      abbrev rest_projected : IsWritten w3 w4 below (take outside before) behind_projection f
      rest_projected = fits_at scope w3 w4 below steps p q f outside (locals ++ made (var next.variable) ∷ []) (take outside before) (one_variable next) fits
          (pushed_locals scope.first w2 w3 before next v (omega arith) pushed (value.stack ∙ node.stack) (value.added.numbers ∙ node.added.numbers))
          (pushed_outside w2 w3 before v outside o pushed (value.stack ∙ node.stack))
          (pushed_numbers w2 w3 next v pushed (value.added.numbers ∙ node.added.numbers))

      pub project_large_unfit : IsTooLargeSide w4.nodes_left below (written_in scope w4.stack.items q (numbers_of w4)).process → IsTooLargeSide w0.nodes_left depth all_projected.process
      project_large_unfit k =
          large_behind depth below (written_in scope (take outside before) q behind_projection.next).process all_projected.process (added_on before_projection rest_projected.added) node.deeper
          (large_body_at scope w4 below q (take outside before) behind_projection.next k rest_projected.stack rest_projected.added.numbers)
          (omega arith) (omega arith)

      pub project_written :
          (w5 : Writer) (r x : Process) → IsWritten w4 w5 below w4.stack.items (written_in scope w4.stack.items q (numbers_of w4)) r → x ≡ process.bind v t f r
          → IsWritten w0 w5 depth (take outside before) all_projected x
      project_written w5 r x k e =
          let other = body_at scope w4 w5 below q r (take outside before) behind_projection.next k rest_projected.stack rest_projected.added.numbers in
          two_written depth (process.bind next.variable projected) behind_projection (written_in scope (take outside before) q) x
          before_projection rest_projected other
          (e ∙ (λ i. process.bind (pushed_number w2 w3 next v pushed (value.added.numbers ∙ node.added.numbers) i) (projected_here.same i) f r))
          (omega arith) (omega (arith, node.deeper, projected_here.low, rest_projected.low, other.low))

  -- a step that tests
  module _ (j : ℕ) (u : Written) (steps : List Step) (p q : Body) (outside : ℕ)
      (w2 : Writer) (t : Tree) (value : IsTermWritten w1 w2 below (record { tree = (value_at (locals_from scope.first w1.stack.items) j).tree; privates = [] }) t) where
    abbrev tested_here : IsTermWritten w1 w2 below (record { tree = (value_at locals j).tree; privates = [] }) t
    tested_here =
        let P : List Local → Type 0 = λ x. IsTermWritten w1 w2 below (record { tree = (value_at (locals_from scope.first x) j).tree; privates = [] }) t in
        subst P node.stack value

    abbrev behind_test : Expansion
    behind_test = taken_apart names steps locals (expansion_of names scope.definitions.now p) (written_in scope (take outside before) q) next

    abbrev all_tested : Expansion
    all_tested = taken_apart_in scope before (Test j u ∷ steps) p q (take outside before) next

    pub test_large_second : IsTooLargeTerm w2.nodes_left below (value_of (locals_from scope.first w2.stack.items) u).tree → IsTooLargeSide w0.nodes_left depth all_tested.process
    test_large_second k =
        large_term_behind depth below (value_of locals u).tree all_tested.process (added_on node.added tested_here.added) node.deeper
        (large_term_at scope.first w2 below u before k (value.stack ∙ node.stack)) (omega arith) (omega arith)

    module _ (w3 : Writer) (r : Tree) (second : IsTermWritten w2 w3 below (value_of (locals_from scope.first w2.stack.items) u) r) where
      abbrev against : IsTermWritten w2 w3 below (value_of locals u) r
      against = term_at scope.first w2 w3 below u r before second (value.stack ∙ node.stack)

      abbrev as_before : w3.stack.items ≡ before
      as_before = second.stack ∙ value.stack ∙ node.stack

      abbrev numbers_before : numbers_of w3 ≡ next
      numbers_before = second.added.numbers ∙ value.added.numbers ∙ node.added.numbers

      abbrev before_test : IsAdded w0 w3 [] (value_of locals u).privates (numbers_of w2) (1 + node_count (value_at locals j).tree + node_count (value_of locals u).tree)
      before_test = added_on (added_on node.added tested_here.added) against.added

      pub test_large_fits :
          IsTooLargeSide w3.nodes_left below (taken_apart_in scope w3.stack.items steps p q (take outside w3.stack.items) (numbers_of w3)).process
          → IsTooLargeSide w0.nodes_left depth all_tested.process
      test_large_fits k =
          large_behind depth below behind_test.process all_tested.process before_test node.deeper
          (large_fits_at scope w3 below steps p q outside locals (take outside before) next k (ap (locals_from scope.first) as_before) (ap (take outside) as_before) numbers_before)
          (omega arith) (omega arith)

      module _ (w4 : Writer) (f : Process)
          (fits : IsWritten w3 w4 below (take outside w3.stack.items) (taken_apart_in scope w3.stack.items steps p q (take outside w3.stack.items) (numbers_of w3)) f) where
        abbrev rest_tested : IsWritten w3 w4 below (take outside before) behind_test f
        rest_tested = fits_at scope w3 w4 below steps p q f outside locals (take outside before) next fits (ap (locals_from scope.first) as_before) (ap (take outside) as_before) numbers_before

        pub test_large_unfit : IsTooLargeSide w4.nodes_left below (written_in scope w4.stack.items q (numbers_of w4)).process → IsTooLargeSide w0.nodes_left depth all_tested.process
        test_large_unfit k =
            large_behind depth below (written_in scope (take outside before) q behind_test.next).process all_tested.process (added_on before_test rest_tested.added) node.deeper
            (large_body_at scope w4 below q (take outside before) behind_test.next k rest_tested.stack rest_tested.added.numbers)
            (omega arith) (omega arith)

        pub test_written :
            (w5 : Writer) (o x : Process) → IsWritten w4 w5 below w4.stack.items (written_in scope w4.stack.items q (numbers_of w4)) o
            → x ≡ process.conditional t r f o → IsWritten w0 w5 depth (take outside before) all_tested x
        test_written w5 o x k e =
            let other = body_at scope w4 w5 below q o (take outside before) behind_test.next k rest_tested.stack rest_tested.added.numbers in
            two_written depth (process.conditional (value_at locals j).tree (value_of locals u).tree) behind_test (written_in scope (take outside before) q) x
            before_test rest_tested other
            (e ∙ (λ i. process.conditional (tested_here.same i) (against.same i) f o))
            (omega arith) (omega (arith, node.deeper, tested_here.low, against.low, rest_tested.low, other.low))

  -- a chain of two or more
  module _ (join : Join) (parts rest : List Body) (p : Body) (are : parts ≡ p ∷ rest) (some : 0 < length rest) where
    abbrev split : here (chain_of join (bodies parts)) ≡ beside (joined join) (here p) (written_in scope before (chain_of join (bodies rest)))
    split = ap (λ ps. here (chain_of join (bodies ps))) are ∙ by join rest some
      where
        by : (sign : Join) (qs : List Body) → 0 < length qs → here (chain_of sign (bodies (p ∷ qs))) ≡ beside (joined sign) (here p) (written_in scope before (chain_of sign (bodies qs)))
        by ByParallel [] e = absurd (omega arith)
        by ByParallel (q ∷ qs) e = refl
        by ByChoice [] e = absurd (omega arith)
        by ByChoice (q ∷ qs) e = refl

    pub pair_large_first : IsTooLargeSide w1.nodes_left below (written_in scope w1.stack.items p (numbers_of w1)).process → IsTooLargeSide w0.nodes_left depth (here (chain_of join (bodies parts))).process
    pair_large_first k =
        let P : Expansion → Type 0 = λ e. IsTooLargeSide w0.nodes_left depth e.process in
        subst P (sym split)
        (large_behind depth below (here p).process (beside (joined join) (here p) (written_in scope before (chain_of join (bodies rest)))).process node.added node.deeper
        (large_body_at scope w1 below p before next k node.stack node.added.numbers)
        (omega (arith, joined_size join (here p).process (written_in scope before (chain_of join (bodies rest)) (here p).next).process))
        (omega (arith, joined_height join (here p).process (written_in scope before (chain_of join (bodies rest)) (here p).next).process)))

    module _ (w2 : Writer) (f : Process) (first : IsWritten w1 w2 below w1.stack.items (written_in scope w1.stack.items p (numbers_of w1)) f) where
      abbrev first_part : IsWritten w1 w2 below before (here p) f
      first_part = body_at scope w1 w2 below p f before next first node.stack node.added.numbers

      pub pair_large_last :
          IsTooLargeSide w2.nodes_left below (written_in scope w2.stack.items (chain_of join (bodies rest)) (numbers_of w2)).process
          → IsTooLargeSide w0.nodes_left depth (here (chain_of join (bodies parts))).process
      pair_large_last k =
          let P : Expansion → Type 0 = λ e. IsTooLargeSide w0.nodes_left depth e.process in
          subst P (sym split)
          (large_behind depth below (written_in scope before (chain_of join (bodies rest)) (here p).next).process
          (beside (joined join) (here p) (written_in scope before (chain_of join (bodies rest)))).process
          (added_on node.added first_part.added) node.deeper
          (large_body_at scope w2 below (chain_of join (bodies rest)) before (here p).next k first_part.stack first_part.added.numbers)
          (omega (arith, joined_size join (here p).process (written_in scope before (chain_of join (bodies rest)) (here p).next).process))
          (omega (arith, joined_height join (here p).process (written_in scope before (chain_of join (bodies rest)) (here p).next).process)))

      pub pair_written :
          (w3 : Writer) (o x : Process) → IsWritten w2 w3 below w2.stack.items (written_in scope w2.stack.items (chain_of join (bodies rest)) (numbers_of w2)) o
          → x ≡ joined join f o → IsWritten w0 w3 depth before (here (chain_of join (bodies parts))) x
      pair_written w3 o x k e =
          let last = body_at scope w2 w3 below (chain_of join (bodies rest)) o before (here p).next k first_part.stack first_part.added.numbers in
          let P : Expansion → Type 0 = λ y. IsWritten w0 w3 depth before y x in
          subst P (sym split)
          (two_written depth (joined join) (here p) (written_in scope before (chain_of join (bodies rest))) x node.added first_part last e
          (joined_size join (here p).process (written_in scope before (chain_of join (bodies rest)) (here p).next).process)
          (omega (arith, joined_height join (here p).process (written_in scope before (chain_of join (bodies rest)) (here p).next).process, node.deeper, first_part.low, last.low)))

  -- two copies or more
  pub copies_written : (count : ℕ) (p : Body) (w2 w3 : Writer) (f o x : Process) → 1 < count
      → IsWritten w1 w2 below w1.stack.items (written_in scope w1.stack.items p (numbers_of w1)) f
      → IsWritten w2 w3 below w2.stack.items (and_copies (count - 1 - 1) (written_in scope w2.stack.items p) (numbers_of w2)) o
      → x ≡ process.parallel f o → IsWritten w0 w3 depth before (and_copies (count - 1) (written_in scope before p) next) x
  copies_written count p w2 w3 f o x two h k e =
      let first = body_at scope w1 w2 below p f before next h node.stack node.added.numbers in
      let P : List Local → Type 0 = λ y. IsWritten w2 w3 below y (and_copies (count - 1 - 1) (written_in scope y p) (numbers_of w2)) o in
      let Q : Numbers → Type 0 = λ y. IsWritten w2 w3 below before (and_copies (count - 1 - 1) (written_in scope before p) y) o in
      let last = subst Q first.added.numbers (subst P first.stack k) in
      let R : ℕ → Type 0 = λ y. IsWritten w0 w3 depth before (and_copies y (written_in scope before p) next) x in
      let more : suc (count - 1 - 1) ≡ count - 1 = omega arith in
      subst R more
      (two_written depth process.parallel (here p) (and_copies (count - 1 - 1) (written_in scope before p)) x node.added first last e
      (omega arith) (omega (arith, node.deeper, first.low, last.low)))
