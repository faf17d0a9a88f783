-- A closure may cross threads where all that it captures may.
use Prim.{tt}
use Prim.Native.Nat.{ℕ}
use mathlib.Core.List.{List, [], ◌∷◌}
use mir.Syntax.{Sym, Ty}
use denote.Exit.{no}
use denote.RattleType.{RattleType}
use denote.Param.{param, arg}
use denote.Struct.Struct.{Struct}
use denote.Struct.Declared as declared
use denote.Struct.Tuple.{TupleAt, type_at}
use denote.Param.Send.{IsSend, IsSync, AllSend, AllSync, param_send, param_sync, arg_send, arg_sync, recorded_send, recorded_sync, struct_send, struct_sync}

module _ (i : ℕ) (δ : Ty) (name : Sym) where
  module _ (captured : List RattleType) where
    abbrev type : declared.Declared
    type = type_at name captured

    all_sync : AllSync (declared.fields type) → IsSync (param i (arg δ no (TupleAt name captured)))
    all_sync s = param_sync i (arg δ no (TupleAt name captured)) (arg_sync δ no (TupleAt name captured) (recorded_sync (Struct (declared.shape type)) type.D type.to type.to_one (struct_sync (declared.shape type) s)))

    all_send : AllSend (declared.fields type) → IsSend (param i (arg δ no (TupleAt name captured)))
    all_send s = param_send i (arg δ no (TupleAt name captured)) (arg_send δ no (TupleAt name captured) (recorded_send (Struct (declared.shape type)) type.D type.to type.to_one (struct_send (declared.shape type) s)))

  -- a closure that captures four values, or five
  pub four_sync : (A B C D : RattleType) → IsSync A → IsSync B → IsSync C → IsSync D → IsSync (param i (arg δ no (TupleAt name (A ∷ B ∷ C ∷ D ∷ []))))
  four_sync A B C D a b c d = all_sync (A ∷ B ∷ C ∷ D ∷ []) (a, (b, (c, (d, tt))))

  pub five_sync : (A B C D E : RattleType) → IsSync A → IsSync B → IsSync C → IsSync D → IsSync E → IsSync (param i (arg δ no (TupleAt name (A ∷ B ∷ C ∷ D ∷ E ∷ []))))
  five_sync A B C D E a b c d e = all_sync (A ∷ B ∷ C ∷ D ∷ E ∷ []) (a, (b, (c, (d, (e, tt)))))

  -- a closure that captures six values
  pub six_send : (A B C D E F : RattleType) → IsSend A → IsSend B → IsSend C → IsSend D → IsSend E → IsSend F → IsSend (param i (arg δ no (TupleAt name (A ∷ B ∷ C ∷ D ∷ E ∷ F ∷ []))))
  six_send A B C D E F a b c d e f = all_send (A ∷ B ∷ C ∷ D ∷ E ∷ F ∷ []) (a, (b, (c, (d, (e, (f, tt))))))
