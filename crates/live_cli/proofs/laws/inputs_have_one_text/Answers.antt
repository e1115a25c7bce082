use Rattle.dap_live.proofs.ForCallers.{new_asking, asking_text, new_node, node_text}
use Rattle.live_cli.specs.Running.{identity_of, server_of, link_setup}
use Rattle.live_cli.proofs.laws.inputs_have_one_text.Goals as goal

pub returns-clause-asking : goal.returns-clause-asking
returns-clause-asking c = λ options one other new end input text more lines others same t u never.
    asking_text one other new end input text more lines others
    (new_asking (link_setup options) (identity_of options) one other same.0 same.1) t u never

pub returns-clause-node : goal.returns-clause-node
returns-clause-node c = λ options one other new end input text more lines others same t u never.
    node_text one other new end input text more lines others
    (new_node (server_of options) options.links (link_setup options) options.waiting one other same.0 same.1) t u never
