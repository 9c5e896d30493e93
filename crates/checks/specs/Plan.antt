-- The place plan of document 01's table, in its order. Assumes nothing.
use Rattle.std.specs.Prelude.{ℕ, Bool, true, false, cond, not, ◌&&◌, ◌||◌, eqb, ltb, Option, Some, None, Result, Ok, Err, ⊤}
use Rattle.std.specs.Bool.{beq}
use Rattle.chain.specs.Chain.{◌if◌else◌}
use Rattle.models.specs.Kinds.{is_in}
use Rattle.models.specs.Refusals.{rejected}
use Rattle.models.specs.declared.{ControlPlan.ControlPlan, ControlProfile.ControlProfile, DataStage.DataStage, Direction.Direction, Refusal.Refusal}
use Rattle.models.specs.declared.ControlProfile.TheVariants.{Compliant, DeviceCompatibility}
use Rattle.models.specs.declared.Direction.TheVariants.{In, Out}
use Rattle.models.specs.declared.TransferType.TheVariants.{Control}
use Rattle.standards.specs.Setup.{request_direction, request_kind, recipient_of}
use Rattle.checks.specs.Prepare.{within_row, is_reserved, is_wrong_data}
use Rattle.checks.specs.declared.{plan.PlanFacts.PlanFacts, plan.ValidatedControlPlan.ValidatedControlPlan}

abbrev pub has_status : Option Direction → Bool
has_status None = false
has_status (Some d) = true

-- the status direction; In, which no check looks at, where there is none
abbrev pub status_or_in : Option Direction → Direction
status_or_in None = In
status_or_in (Some d) = d

abbrev pub is_compliant : ControlProfile → Bool
is_compliant Compliant = true
is_compliant DeviceCompatibility = false

abbrev pub has_stage : Option DataStage → Bool
has_stage None = false
has_stage (Some s) = true

-- no data stage means length 0 in the SETUP's direction
abbrev pub stage_of : Option DataStage → ℕ → DataStage
stage_of None type = record { direction = request_direction type; length = 0 }
stage_of (Some s) type = s

-- Compliant status is OUT after a non-empty IN stage, else IN
abbrev pub compliant_status : DataStage → Direction
compliant_status s = cond (is_in s.direction && ltb 0 s.length) Out In

-- what the checks look at, of the plan q with m bytes of data, where a row of the store has `row` bytes
abbrev pub plan_facts : ControlPlan → ℕ → ℕ → PlanFacts
plan_facts q m row = record {
  has_status = has_status q.status_direction;
  status_in = is_in (status_or_in q.status_direction);
  request_type = q.setup.request_type;
  request = q.setup.request;
  recipient = recipient_of q.setup.request_type;
  kind = request_kind q.setup.request_type;
  setup_in = is_in (request_direction q.setup.request_type);
  setup_length = q.setup.length;
  compliant = is_compliant q.profile;
  compliant_in = is_in (compliant_status (stage_of q.data_stage q.setup.request_type));
  has_stage = has_stage q.data_stage;
  inward = is_in (stage_of q.data_stage q.setup.request_type).direction;
  length = (stage_of q.data_stage q.setup.request_type).length;
  data_length = m;
  row_bytes = row;
}

-- all: 24 data; 25 payload without stage
unfoldable pub payload_checked : PlanFacts → Result ⊤ Refusal
payload_checked v =
    rejected 24 if is_wrong_data v.inward v.data_length v.length else
    rejected 25 if not v.has_stage && not (eqb v.data_length 0) else
    (Ok tt)

-- Compliant: 21U as 13; 22 stages; 23 status
unfoldable pub stages_checked : PlanFacts → Result ⊤ Refusal
stages_checked v =
    rejected 21 if is_reserved v.recipient v.kind else
    rejected 22
    if not (eqb v.length v.setup_length) || not (beq v.has_stage (not (eqb v.setup_length 0))) || not (beq v.inward v.setup_in)
    else
    rejected 23 if not (beq v.status_in v.compliant_in) else
    payload_checked v

-- 6; 7
unfoldable pub size_checked : PlanFacts → Result ⊤ Refusal
size_checked v = within_row v.length v.row_bytes (stages_checked v if v.compliant else payload_checked v)

-- 18U no status; 19U type 0 request 5; 20U type 0 request 9 or type 1 request 11
unfoldable pub plan_checked : PlanFacts → Result ⊤ Refusal
plan_checked v =
    rejected 18 if not v.has_status else
    rejected 19 if eqb v.request_type 0 && eqb v.request 5 else
    rejected 20 if eqb v.request_type 0 && eqb v.request 9 || eqb v.request_type 1 && eqb v.request 11 else
    size_checked v

-- document 01's validated plan
abbrev pub plan_of : ControlPlan → ValidatedControlPlan
plan_of q = record {
  metadata = record {
    device = q.device;
    endpoint = 0;
    transfer_type = Control;
    direction = (stage_of q.data_stage q.setup.request_type).direction;
    requested_length = (stage_of q.data_stage q.setup.request_type).length;
    setup = Some q.setup;
  };
  has_data = has_stage q.data_stage;
  data_direction = (stage_of q.data_stage q.setup.request_type).direction;
  status_direction = status_or_in q.status_direction;
  profile = q.profile;
}

unfoldable pub planned_if : Result ⊤ Refusal → ControlPlan → Result ValidatedControlPlan Refusal
planned_if (Err r) q = Err r
planned_if (Ok tt) q = Ok (plan_of q)

unfoldable pub planned : ControlPlan → ℕ → ℕ → Result ValidatedControlPlan Refusal
planned q m row = planned_if (plan_checked (plan_facts q m row)) q
