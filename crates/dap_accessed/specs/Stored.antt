-- What a server keeps is stored as its parts.
use Rattle.std.specs.Prelude.{ℕ, Option, refl}
use Rattle.std.specs.Coded.{Coded, code_by, coded×, coded_ℕ, coded_option}
use Rattle.dap_accessed.specs.declared.asked.Asked.{Asked}
use Rattle.dap_accessed.specs.contracts.asked.Asked as asked_type
use Rattle.dap_accessed.specs.declared.setup.ServerSetup.{ServerSetup}
use Rattle.dap_accessed.specs.contracts.setup.ServerSetup as setup_type
use Rattle.dap_accessed.specs.declared.phase.Phase.{Phase}
use Rattle.dap_accessed.specs.contracts.phase.Phase as phase_type
use Rattle.dap_accessed.specs.Standing.{Files}
use Rattle.dap_accessed.specs.Present.{Present}
use Rattle.dap_accessed.specs.Sessions.{SessionValue}
use Rattle.dap_accessed.specs.Tables.{files_code}

-- the parts as one value
abbrev pub present_code : Coded Present
present_code =
    code_by (ℕ × (ServerSetup × (ℕ × (Files × (Option Asked × Phase)))))
    (coded× coded_ℕ (coded× setup_type.the_row.coded (coded× coded_ℕ (coded× files_code (coded× (coded_option asked_type.the_row.coded) phase_type.the_row.coded)))))
    (λ p. (p.own, (p.setup, (p.limit, (p.files, (p.kept, p.phase))))))
    (λ p. record { own = p.0; setup = p.1.0; limit = p.1.1.0; files = p.1.1.1.0; kept = p.1.1.1.1.0; phase = p.1.1.1.1.1 })
    (λ _. refl)

-- the parts of a session as one value
abbrev pub session_code : Coded SessionValue
session_code =
    code_by (ℕ × (ServerSetup × (ℕ × (Option Asked × Phase))))
    (coded× coded_ℕ (coded× setup_type.the_row.coded (coded× coded_ℕ (coded× (coded_option asked_type.the_row.coded) phase_type.the_row.coded))))
    (λ s. (s.own, (s.setup, (s.limit, (s.kept, s.phase)))))
    (λ p. record { own = p.0; setup = p.1.0; limit = p.1.1.0; kept = p.1.1.1.0; phase = p.1.1.1.1 })
    (λ _. refl)
