use Rattle.std.proofs.Common.{rules, ◌≡◌, Some, Ok, Err, false, true, refl, sym, ap, subst, ◌∙◌}
use Rattle.std.specs.Prelude.{is_ok, IsOk}
use Rattle.std.specs.Option.{option_map, option_copied, option_copied_mut}
use Rattle.std.proofs.lemmas.Result.{err_from_is_err_and}
use Rattle.graphql_nodes.specs.NodeView.{NodeView}
use Rattle.apollo_executable.specs.Requests.{requested, IsRefusal}
use Rattle.apollo_executable.specs.OperationLending.{with_requested}
use Rattle.apollo_executable.specs.declared.operation.Operation.{Operation}
use Rattle.apollo_executable.specs.declared.request_error.RequestError.TheVariants.{Memory}
use Rattle.apollo_executable.proofs.RequestLemmas.{put_back, put_anew}
use Rattle.apollo_executable.proofs.operation_map.OperationMap.get_mut.Goals as goal

pub returns-in_err-make_mut-in-Some : goal.returns-in_err-make_mut-in-Some
returns-in_err-make_mut-in-Some c =
    let m = c.args.self.now in
    let name = option_copied c.args.name in
    let node = c.in-Some.node.now in
    let exit = err_from_is_err_and c.from_residual.result c.from_residual.ensures.1 in
    let there : requested m name ≡ Some node = sym c.requested_mut.ensures.found
    ∙ ap option_copied_mut c.in-Some.is in
    let refused : c.make_mut.result ≡ Err c.in_err-make_mut-in-Some.field-0.0 = search rules in
    let unwritten : c.make_mut.follows.lender-at-none ≡ node =
    rw refused at c.make_mut.follows.holds-at-none in
    let put : c.requested_mut.follows.lender c.make_mut.follows.lender-at-none
    ≡ with_requested m name c.make_mut.follows.lender-at-none =
    rw c.in-Some.is at (c.requested_mut.follows.holds c.make_mut.follows.lender-at-none) in
    let back : c.requested_mut.follows.lender c.make_mut.follows.lender-at-none ≡ m = put
    ∙ ap (with_requested m name) unwritten ∙ put_back m name node there in (
      (rw exit.1 refl, λ w ok. let no : false ≡ true = subst (λ r. IsOk r) exit.1 ok in cc, rw exit.1 back),
      record {
        writes_back = tt;
        found = rw exit.1 tt;
        error = rw (exit.1, exit.2) (subst (λ o. IsRefusal o c.args.name Memory) (sym there) refl);
      },
    )

pub returns-in_ok-make_mut-in-Some : goal.returns-in_ok-make_mut-in-Some
returns-in_ok-make_mut-in-Some c =
    let m = c.args.self.now in
    let name = option_copied c.args.name in
    let node = c.in-Some.node.now in
    let there : requested m name ≡ Some node = sym c.requested_mut.ensures.found
    ∙ ap option_copied_mut c.in-Some.is in
    let put : (w : NodeView Operation) → c.requested_mut.follows.lender w ≡ with_requested m name w =
    λ w. rw c.in-Some.is at (c.requested_mut.follows.holds w) in
    let given : c.make_mut.result ≡ Ok c.in_ok-make_mut-in-Some.field-0 = search rules in
    let lent : IsOk c.make_mut.result = ap (λ r. is_ok r) given in (
      (
        refl,
        λ w ok. put_anew m name node (c.make_mut.follows.lender w) w _ there
            (c.make_mut.follows.holds w lent) (put (c.make_mut.follows.lender w)),
        tt,
      ),
      record {
        writes_back = tt;
        found = ap (option_map (λ (o : NodeView Operation). o.value)) there
            ∙ ap Some (sym c.in_ok-make_mut-in-Some.ensures.value);
        error = tt;
      },
    )
