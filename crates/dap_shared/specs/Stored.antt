-- What a node keeps is stored as its parts.
use Rattle.std.specs.Prelude.{ℕ, List, refl}
use Rattle.std.specs.Coded.{Coded, code_by, coded×, coded_ℕ, coded_list}
use Rattle.dap_accessed.specs.declared.setup.ServerSetup.{ServerSetup}
use Rattle.dap_accessed.specs.Standing.{Files}
use Rattle.dap_accessed.specs.contracts.setup.ServerSetup as setup_type
use Rattle.dap_accessed.specs.Tables.{files_code}
use Rattle.dap_accessed.specs.Sessions.{SessionValue}
use Rattle.dap_accessed.specs.Stored.{session_code}
use Rattle.dap_shared.specs.Noted.{NotedValue}
use Rattle.dap_shared.specs.Shared.{SharedValue}

-- the parts as one value
abbrev pub shared_code : Coded SharedValue
shared_code =
    code_by (ℕ × (ServerSetup × (Files × List SessionValue))) (coded× coded_ℕ (coded× setup_type.the_row.coded (coded× files_code (coded_list session_code))))
    (λ v. (v.own, (v.setup, (v.files, v.sessions))))
    (λ p. record { own = p.0; setup = p.1.0; files = p.1.1.0; sessions = p.1.1.1 })
    (λ _. refl)

-- those parts, the addresses and what was noted as one value
abbrev pub noted_code : Coded NotedValue
noted_code =
    code_by (SharedValue × (List ℕ × List ℕ)) (coded× shared_code (coded× (coded_list coded_ℕ) (coded_list coded_ℕ)))
    (λ v. (v.shared, (v.addresses, v.locked)))
    (λ p. record { shared = p.0; addresses = p.1.0; locked = p.1.1 })
    (λ _. refl)
