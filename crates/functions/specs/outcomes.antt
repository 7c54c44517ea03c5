pub mod OpenedFun
