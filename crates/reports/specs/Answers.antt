-- What several calls answer, and what a backend's error does (document 01, "Request row"). Assumes nothing.
use Rattle.std.specs.Prelude.{Bool, true, false, Err}
use Rattle.chain.specs.Chain.{◌if◌else◌}
use Rattle.models.specs.declared.{ErrorCategory.ErrorCategory, OperationError.OperationError, Refusal.Refusal, RequestReport.RequestReport}
use Rattle.session.specs.Session.{marked}
use Rattle.session.specs.declared.{Called.Called, Session.Session}

-- a backend's error of a category other than Validation or Unsupported marks recovery
abbrev pub is_mild : ErrorCategory → Bool
is_mild ErrorCategory.Validation = true
is_mild ErrorCategory.Unsupported = true
is_mild ErrorCategory.OperatingSystem = false
is_mild ErrorCategory.Controller = false
is_mild ErrorCategory.Timeout = false
is_mild ErrorCategory.Disconnect = false
is_mild ErrorCategory.RecoveryRequired = false

unfoldable pub effect : OperationError → Session → Session
effect e s = s if is_mild e.category else marked s
