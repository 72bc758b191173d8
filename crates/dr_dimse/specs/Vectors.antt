-- Worked figures: an echo, a store and a cancel, byte by byte.
use Rattle.std.specs.Prelude.{ℕ, None, false, List, [], ◌∷◌, ◌++◌, length, codes}
use Rattle.dr_dimse.specs.declared.command.Command.{Command}
use Rattle.dr_dimse.specs.declared.command.Command.TheVariants.{StoreRq, StoreRsp, EchoRq, EchoRsp}
use Rattle.dr_dimse.specs.declared.command.Command.TheVariants.{Other}
use Rattle.dr_dimse.specs.Written.{element_texts, elements_of}
use Rattle.dr_base.specs.Standard.{image, verification}

-- a C-ECHO-RQ with message id 1 (PS3.7 9.3.5.1)
abbrev pub echo_request : Command
echo_request = EchoRq 1 verification false

-- the C-ECHO-RSP to message 1, with status 0000H, success (PS3.7 9.3.5.2)
abbrev pub echo_answer : Command
echo_answer = EchoRsp 1 0 verification false

-- the group length (0000,0000) of the C-ECHO-RSP: how many bytes stand behind its element
abbrev pub group_length_of_answer : ℕ
group_length_of_answer = length (element_texts (elements_of echo_answer))

-- a C-STORE-RQ of the CT image 1.2.3, with message id 7 (PS3.7 9.3.1.1)
abbrev pub store_request : Command
store_request = StoreRq 7 image (codes "1.2.3")

-- the C-STORE-RSP to message 7, with status A700H, out of resources (PS3.7 9.3.1.2, PS3.4 B.2.3)
abbrev pub store_answer : Command
store_answer = StoreRsp 7 0xA700 image (codes "1.2.3") false

-- the affected SOP class (0000,0002) of both the request and its answer
abbrev pub class_text : List ℕ
class_text = 0 ∷ 0 ∷ 2 ∷ 0 ∷ 26 ∷ 0 ∷ 0 ∷ 0 ∷ (image ++ 0 ∷ [])

-- the affected SOP instance (0000,1000) of both the request and its answer
abbrev pub instance_text : List ℕ
instance_text = 0 ∷ 0 ∷ 0 ∷ 0x10 ∷ 6 ∷ 0 ∷ 0 ∷ 0 ∷ 0x31 ∷ 0x2E ∷ 0x32 ∷ 0x2E ∷ 0x33 ∷ 0 ∷ []

-- of the C-STORE-RQ: field (0000,0100), message id (0000,0110), priority (0000,0700), data set type
-- (0000,0800)
abbrev pub store_numbers : List ℕ
store_numbers =
    0 ∷ 0 ∷ 0 ∷ 1 ∷ 2 ∷ 0 ∷ 0 ∷ 0 ∷ 1 ∷ 0 ∷ 0 ∷ 0 ∷ 0x10 ∷ 1 ∷ 2 ∷ 0 ∷ 0 ∷ 0 ∷ 7 ∷ 0 ∷ 0 ∷ 0 ∷ 0 ∷ 7
    ∷ 2 ∷ 0 ∷ 0 ∷ 0 ∷ 0 ∷ 0 ∷ 0 ∷ 0 ∷ 0 ∷ 8 ∷ 2 ∷ 0 ∷ 0 ∷ 0 ∷ 1 ∷ 0 ∷ []

-- the C-STORE-RQ byte by byte: group length 88, class, numbers, instance
abbrev pub store_text : List ℕ
store_text =
    0 ∷ 0 ∷ 0 ∷ 0 ∷ 4 ∷ 0 ∷ 0 ∷ 0 ∷ 88 ∷ 0 ∷ 0 ∷ 0
    ∷ (class_text ++ (store_numbers ++ instance_text))

-- the C-STORE-RSP byte by byte: group length, class, field, message id that is answered
-- (0000,0120), data set type, status (0000,0900), instance
abbrev pub store_answer_text : List ℕ
store_answer_text =
    0 ∷ 0 ∷ 0 ∷ 0 ∷ 4 ∷ 0 ∷ 0 ∷ 0 ∷ 88 ∷ 0 ∷ 0 ∷ 0
    ∷ (class_text
    ++ (0 ∷ 0 ∷ 0 ∷ 1 ∷ 2 ∷ 0 ∷ 0 ∷ 0 ∷ 1 ∷ 0x80 ∷ 0 ∷ 0 ∷ 0x20 ∷ 1 ∷ 2 ∷ 0 ∷ 0 ∷ 0 ∷ 7 ∷ 0 ∷ 0 ∷ 0
    ∷ 0 ∷ 8 ∷ 2 ∷ 0 ∷ 0 ∷ 0 ∷ 1 ∷ 1 ∷ 0 ∷ 0 ∷ 0 ∷ 9 ∷ 2 ∷ 0 ∷ 0 ∷ 0 ∷ 0 ∷ 0xA7 ∷ instance_text))

-- the move originator's title (0000,1030), of 16 bytes, and its message id (0000,1031), of that
-- many bytes
abbrev pub originator : List ℕ → List ℕ
originator id =
    0 ∷ 0 ∷ 0x30 ∷ 0x10 ∷ 16 ∷ 0 ∷ 0 ∷ 0
    ∷ (codes "GATE            " ++ (0 ∷ 0 ∷ 0x31 ∷ 0x10 ∷ length id ∷ 0 ∷ 0 ∷ 0 ∷ id))

-- a C-STORE-RQ of a C-MOVE, without its group length
abbrev pub moved_text : List ℕ → List ℕ
moved_text id = class_text ++ (store_numbers ++ (instance_text ++ originator id))

-- a C-CANCEL-RQ (PS3.7 9.3.2.3) as it is read: without the id of the message that it cancels
abbrev pub cancel : Command
cancel = Other 0x0FFF None None false

-- the C-CANCEL-RQ byte by byte, without a group length: field 0FFFH, message id that is cancelled,
-- no data set
abbrev pub cancel_text : List ℕ
cancel_text =
    0 ∷ 0 ∷ 0 ∷ 1 ∷ 2 ∷ 0 ∷ 0 ∷ 0 ∷ 0xFF ∷ 0x0F ∷ 0 ∷ 0 ∷ 0x20 ∷ 1 ∷ 2 ∷ 0 ∷ 0 ∷ 0 ∷ 7 ∷ 0 ∷ 0 ∷ 0
    ∷ 0 ∷ 8 ∷ 2 ∷ 0 ∷ 0 ∷ 0 ∷ 1 ∷ 1 ∷ []

-- a C-CANCEL-RQ with these values of the message id that is cancelled (0000,0120) and of a status
-- (0000,0900), which it doesn't need
abbrev pub cancel_with : List ℕ → List ℕ → List ℕ
cancel_with to status =
    0 ∷ 0 ∷ 0 ∷ 1 ∷ 2 ∷ 0 ∷ 0 ∷ 0 ∷ 0xFF ∷ 0x0F ∷ 0 ∷ 0 ∷ 0x20 ∷ 1 ∷ length to ∷ 0 ∷ 0 ∷ 0
    ∷ (to
    ++ (0 ∷ 0 ∷ 0 ∷ 8 ∷ 2 ∷ 0 ∷ 0 ∷ 0 ∷ 1 ∷ 1 ∷ 0 ∷ 0 ∷ 0 ∷ 9 ∷ length status ∷ 0 ∷ 0 ∷ 0 ∷ status))
