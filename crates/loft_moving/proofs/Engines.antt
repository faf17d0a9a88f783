-- An engine may go to another thread: it holds a reference to the code, which threads may share, and else what it owns alone. The
-- check does not find this at once of so much code, so the parts are put together here.
use Prim.{tt}
use denote.Ref.{NamedLft}
use denote.Struct.Declared as declared
use denote.Param.Send.{IsSend, struct_send, recorded_send, shr_send}
use Rattle.loft_code.specs.contracts.valid.Code as Code
use Rattle.loft_line_engine.proofs.engine.LineEngine.TheSendSync as line
use Rattle.loft_sharing.proofs.Sharing.{code}
use Rattle.loft_engine.specs.contracts.engine.CodeEngine as CodeEngine
use Rattle.loft_step.specs.contracts.midst.Paused as Paused
use Rattle.loft_stepper.specs.contracts.stepper.Stepper as Stepper
use Rattle.loft_stepper.specs.contracts.stepper.StepperInterpreter.TheImpl as interpreter

pub stepper : (a : NamedLft) → IsSend (Stepper.the_row a)
stepper a = recorded_send (Stepper.the_field a).row _ _ (Stepper.the_type a).to_one (struct_send (declared.shape (Stepper.the_type a)) (shr_send _ _ Code.the_row code, tt))

pub engine : (a : NamedLft) → IsSend (CodeEngine.the_row a)
engine a = recorded_send (CodeEngine.the_field a).row _ _ (CodeEngine.the_type a).to_one (struct_send (declared.shape (CodeEngine.the_type a)) (line.the_field_send (Stepper.the_row a) Paused.the_row interpreter.ghosts (stepper a), tt))
