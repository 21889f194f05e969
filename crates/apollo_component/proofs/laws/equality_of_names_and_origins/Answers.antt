use Rattle.apollo_component.proofs.ComponentEquality.{component_names, directive_lists, extension_ids}
use Rattle.apollo_component.proofs.ComponentEquality.{sets_of_component_names, origins, ids_spent_errors}
use Rattle.apollo_component.proofs.laws.equality_of_names_and_origins.Goals as goal

pub returns-clause-component_name : goal.returns-clause-component_name
returns-clause-component_name c = component_names.at

pub returns-clause-key_set : goal.returns-clause-key_set
returns-clause-key_set c = sets_of_component_names.at

pub returns-clause-directive_list : goal.returns-clause-directive_list
returns-clause-directive_list c = directive_lists.at

pub returns-clause-extension_id : goal.returns-clause-extension_id
returns-clause-extension_id c = extension_ids.at

pub returns-clause-component_origin : goal.returns-clause-component_origin
returns-clause-component_origin c = origins.at

pub returns-clause-ids_spent : goal.returns-clause-ids_spent
returns-clause-ids_spent c = ids_spent_errors.at
